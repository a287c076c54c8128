pub mod PairLaws
pub mod JudgeLaws
pub mod Numbers
pub mod BracketLaws
pub mod JoinLaws
pub mod Clauses
pub mod OverlapLaws
