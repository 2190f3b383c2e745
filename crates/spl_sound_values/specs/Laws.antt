-- The laws of this crate.
use Rattle.std.specs.Prelude.{◌≡◌, ℕ, Bool, true, false, []}
use Rattle.spl_shapes.specs.spl_tree.declared.names_and_places.At.{At}
use Rattle.spl_shapes.specs.spl_tree.Trees.{Tree}
use Rattle.spl_near_places.specs.spl_meaning.Kinds.{is_double, kind_of}
use Rattle.spl_near_places.specs.spl_meaning.Limits.{uses}
use Rattle.spl_near_places.specs.spl_meaning.References.{Setting}
use Rattle.spl_near_places.specs.spl_meaning.Values.{Who}
use Rattle.spl_near_places.specs.spl_meaning.ExpressionRules as rule
use Rattle.spl_near_places.specs.spl_meaning.ExpressionRules.{faults}
use Rattle.spl_near_places.specs.spl_code.Calls.{Scope}
use Rattle.spl_covered.specs.Covered.{is_covered, is_wide}
use Rattle.spl_near_places.specs.spl_places.Programs.{Each}
use Rattle.spl_shapes.specs.Shapes.{is_shaped}
use Rattle.spl_sound_values.specs.Seen.{Seen, UseAllowed}

-- An expression that breaks no rule is covered, where what is known of its names is so: as a value of one word, or of two where it is a DOUBLE.
abbrev pub SoundValuesAreCovered : Type 0
SoundValuesAreCovered = (may : Who → Bool) (c : Scope) (st : Setting) (sc : rule.Scope) → Seen may c st sc → (e : Tree) (around : At) (k : ℕ)
    → faults sc around e ≡ [] → is_shaped e ≡ true → Each (UseAllowed may c) (uses c.names e k)
    → (is_double (kind_of c.names e) ≡ false → is_covered may c st e k ≡ true) × (is_double (kind_of c.names e) ≡ true → is_wide may c st e k ≡ true)
