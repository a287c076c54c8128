mod SettingsLaws
pub mod WordLaws
pub mod LayLaws
pub mod TopLaws
pub mod WorkLaws
pub mod CallLaws
pub mod ReadLaws
pub mod StepLaws
pub mod AlternativesWitness
pub mod CallWitness
pub mod SplitWitness
pub mod EndLaws
pub mod LineLaws
mod AnswerLaws
mod LoopLaws
mod GoingLaws
mod RunLaws
pub mod ProgramLaws
