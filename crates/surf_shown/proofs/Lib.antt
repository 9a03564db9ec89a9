pub mod PastLoops
pub mod ServedLaws
pub mod Judged
pub mod RankLaws
