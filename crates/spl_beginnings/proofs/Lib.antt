-- In reading order.
pub mod PartLaws
pub mod ExpressionLaws
pub mod ValueLaws
pub mod StatementLaws
pub mod KnownBeginnings
