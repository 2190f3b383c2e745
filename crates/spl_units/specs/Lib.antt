pub mod UnitParts
