pub mod Deref
pub mod Apart
pub mod ShortcutsLaws
pub mod Remembering
