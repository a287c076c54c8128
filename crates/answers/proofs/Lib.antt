pub mod NumberLaws
pub mod WalkLaws
pub mod ShallowLaws
pub mod ValueLaws
pub mod LineLaws
pub mod LinesWitness
