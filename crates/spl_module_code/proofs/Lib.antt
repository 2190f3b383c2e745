pub mod KnownUnits
pub mod KnownModules
pub mod KnownLabels
-- Passed on from the crates below.
pub use Rattle.spl_body_code.proofs as spl_body_code_proofs
pub use Rattle.spl_modules.proofs.spl_found_proofs
pub use Rattle.spl_modules.proofs as spl_modules_proofs
pub use Rattle.spl_modules.proofs.spl_places_proofs
pub use Rattle.spl_modules.proofs.spl_scopes_proofs
