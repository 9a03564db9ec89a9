mod CopyLines
mod CutLaws
mod Cutting
