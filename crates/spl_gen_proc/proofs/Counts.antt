-- Sums along declarations.
use Rattle.std.proofs.Common.{◌≡◌, ◌<◌, ◌≤◌, ℕ, ◌+◌, List, map, drop, length, get_or, arith}
use Rattle.spl_tree.specs.declared.declarations.Decl.{Decl}
use Rattle.spl_tree.specs.DeclarationTrees.{declarations}
use Rattle.spl_tree.specs.Spells.{declaration}
use Rattle.spl_unit_laws.proofs.spl_lists_proofs.NameWalks.{onward, onward_end}
use Rattle.spl_unit_laws.specs.spl_routine_code.Routines.{inner_count, inners_among}
use Rattle.spl_unit_laws.specs.Units.{routine_rooms, rooms_among}

pub inner_onward : (list : List Decl) (i : ℕ) (d : Decl) → i < length list → d ≡ get_or list i d
    → inners_among (declarations (map declaration (drop i list))) ≡ inner_count (declaration d) + inners_among (declarations (map declaration (drop (i + 1) list)))
inner_onward list i d lt is = onward declaration (λ ds. inners_among (declarations ds)) list i d lt is

pub inner_end : (list : List Decl) (i : ℕ) → length list ≤ i → inners_among (declarations (map declaration (drop i list))) ≡ 0
inner_end list i le = onward_end declaration (λ ds. inners_among (declarations ds)) list i le

pub rooms_onward : (list : List Decl) (i : ℕ) (d : Decl) → i < length list → d ≡ get_or list i d
    → rooms_among (declarations (map declaration (drop i list))) ≡ routine_rooms (declaration d) + rooms_among (declarations (map declaration (drop (i + 1) list)))
rooms_onward list i d lt is = onward declaration (λ ds. rooms_among (declarations ds)) list i d lt is

pub rooms_end : (list : List Decl) (i : ℕ) → length list ≤ i → rooms_among (declarations (map declaration (drop i list))) ≡ 0
rooms_end list i le = onward_end declaration (λ ds. rooms_among (declarations ds)) list i le

pub ruleset count_steps = (inner_onward, inner_end, rooms_onward, rooms_end)

-- ---- one step of a sum

pub sum_next : (count rest one more all next : ℕ) → count + rest ≡ all → rest ≡ one + more → next ≡ count + one → next + more ≡ all
sum_next count rest one more all next whole parts is = omega (arith, whole, parts, is)

pub sum_last : (count rest all : ℕ) → count + rest ≡ all → rest ≡ 0 → count ≡ all
sum_last count rest all whole none = omega (arith, whole, none)
