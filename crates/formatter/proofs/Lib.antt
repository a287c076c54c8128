pub mod Progress
pub mod TermLaws
pub mod ItemTexts
pub mod BodyLaws
pub mod ClauseLaws
pub mod DeclarationLaws
pub mod SheetLaws
