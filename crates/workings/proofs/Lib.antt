pub mod RecordLaws
mod RestLaws
mod PileLaws
mod FollowLaws
mod LiteralLaws
mod MoveLaws
mod LoopLaws
mod CheckLaws
pub mod DueLaws
pub mod ClauseLaws
pub mod SideLaws
pub mod PassLaws
