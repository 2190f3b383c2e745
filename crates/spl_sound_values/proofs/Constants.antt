-- Constants that break no rule: counts of shifts, and bit fields.
use Rattle.std.proofs.Common.{◌≡◌, ◌+◌, ◌&&◌, nat_lt, nat_le, true, [], ◌++◌, ℤ, pos, negsuc, ◌+ℤ◌, int_le, unsigned_abs, Option, Some, None, is_some, arith}
use Rattle.std.proofs.lemmas.Bool.{and_from, lt-ltb, leb-true}
use Rattle.spl_shapes.specs.spl_tree.declared.names_and_places.At.{At}
use Rattle.spl_shapes.specs.spl_tree.Trees.{Constant}
use Rattle.spl_near_places.specs.spl_meaning.Names.{Names, constant_value, or_zero}
use Rattle.spl_near_places.specs.spl_meaning.Values.{small_constant}
use Rattle.spl_near_places.specs.spl_meaning.Faults.{unless}
use Rattle.spl_near_places.specs.spl_meaning.ExpressionRules.{constant_faults, in_range, is_field, field_faults}
use Rattle.spl_covered.proofs.spl_values_proofs.VariableLemmas.{both}
use Rattle.spl_near_places.proofs.spl_sound_names_proofs.Tables.{Known, constant_known, left_none, right_none, unless_none, never}

-- a count that is in range is less than 64
count_small : (o : Option ℤ) → is_some o ≡ true → in_range (pos 0) (pos 15) o ≡ true → nat_lt (unsigned_abs (or_zero o)) 64 ≡ true
count_small None some is = never some
count_small (Some (pos v)) some is = lt-ltb v 64 (omega (arith, leb-true v 15 (both (int_le (pos 0) (pos v)) (int_le (pos v) (pos 15)) is).1))
count_small (Some (negsuc v)) some is = never is

pub shift_small : (names : Names) → Known names → (at there : At) (by : Constant) → constant_faults names at by ≡ []
    → unless (in_range (pos 0) (pos 15) (constant_value names by)) 13 there ≡ [] → nat_lt (small_constant names by) 64 ≡ true
shift_small names known at there by none range =
    count_small (constant_value names by) (constant_known names known at by none) (unless_none (in_range (pos 0) (pos 15) (constant_value names by)) 13 there range)

-- a field is within its word
field_within : (o p : Option ℤ) → is_some o ≡ true → is_some p ≡ true → is_field o p ≡ true
    → (nat_le 1 (unsigned_abs (or_zero p)) && nat_le (unsigned_abs (or_zero o) + unsigned_abs (or_zero p)) 16) ≡ true
unfolding is_field
field_within None p first second is = never first
field_within (Some start) None first second is = never second
field_within (Some (pos a)) (Some (pos b)) first second is =
    let parts = both (int_le (pos 0) (pos a) && int_le (pos 1) (pos b)) (int_le (pos a +ℤ pos b) (pos 16)) is in
    and_from (nat_le 1 b) (nat_le (a + b) 16) (both (int_le (pos 0) (pos a)) (int_le (pos 1) (pos b)) parts.0).1 parts.1
field_within (Some (pos a)) (Some (negsuc b)) first second is =
    never (both (int_le (pos 0) (pos a)) (int_le (pos 1) (negsuc b)) (both (int_le (pos 0) (pos a) && int_le (pos 1) (negsuc b)) _ is).0).1
field_within (Some (negsuc a)) (Some size) first second is = never is

pub field_small : (names : Names) → Known names → (at : At) (start size : Constant) → field_faults names start size at ≡ []
    → (nat_le 1 (small_constant names size) && nat_le (small_constant names start + small_constant names size) 16) ≡ true
field_small names known at start size none =
    let range = unless (is_field (constant_value names start) (constant_value names size)) 13 at in
    let both_constants = left_none (constant_faults names at start ++ constant_faults names at size) range none in
    field_within (constant_value names start) (constant_value names size)
    (constant_known names known at start (left_none (constant_faults names at start) (constant_faults names at size) both_constants))
    (constant_known names known at size (right_none (constant_faults names at start) (constant_faults names at size) both_constants))
    (unless_none (is_field (constant_value names start) (constant_value names size)) 13 at
    (right_none (constant_faults names at start ++ constant_faults names at size) range none))
