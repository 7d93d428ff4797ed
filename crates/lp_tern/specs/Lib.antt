pub mod Expression
pub mod ExpressionLaws
pub mod Values
