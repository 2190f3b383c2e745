-- What a main body may use.
use Rattle.std.proofs.Common.{◌≡◌, true, false, [], Option, Some, None, refl, ap, ◌∙◌}
use Rattle.spl_sound.specs.spl_meaning.Names.{Names, Sort, Table, find, or_else}
use Rattle.spl_sound.specs.spl_meaning.ExpressionRules.{Scope}
use Rattle.spl_uses.specs.spl_found.OwnNames.{over}
use Rattle.spl_types.specs.UnitParts.{main_with}

none_outside : (o : Option Sort) → or_else o None ≡ o
none_outside None = refl
none_outside (Some s) = refl

over_none : (here : Names) → over here (find []) ≡ here
over_none here i x = none_outside (here x) i

-- a main body behind its list and nothing
abbrev pub main_over : Names → Table Sort → Scope
main_over here outer = record { names = over here (find outer); is_local = λ x. true; results = []; split = false; is_main = true }

pub main_is : (here : Names) (outer : Table Sort) → outer ≡ [] → main_over here outer ≡ main_with here
main_is here outer e = ap (main_over here) e ∙ ap main_with (over_none here)
