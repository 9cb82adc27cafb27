pub mod SyntacticMonoid
pub mod Action
