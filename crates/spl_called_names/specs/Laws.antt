-- Modules want no name that the bodies of their units do not call.
use Rattle.std.specs.Prelude.{◌≡◌, ℕ, true}
use Rattle.std.specs.List.{list_all}
use Rattle.spl_module_code.specs.spl_scopes.Scopes.{Placed}
use Rattle.spl_module_code.specs.Modules.{module_written}
use Rattle.spl_called_names.specs.Called.{Testing, unit_passes}

-- each test that the calls of a unit in a segment pass is passed by what the code there wants
abbrev pub ModulesWantWhatIsCalled : Type 0
ModulesWantWhatIsCalled = (test : Testing) (p : Placed) (g : ℕ) → unit_passes test p.unit g ≡ true → list_all test (module_written p g).wants ≡ true
