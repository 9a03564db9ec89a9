mod SideLaws
