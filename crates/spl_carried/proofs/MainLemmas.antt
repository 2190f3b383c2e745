-- Where the main body of a program is: among its units, among its modules, and among its segments.
use Rattle.std.proofs.Common.{◌≡◌, ℕ, suc, ◌+◌, Bool, true, false, List, [], ◌∷◌, ◌++◌, length, Option, Some, None, refl, sym, ap, subst, ◌∙◌, arith}
use Rattle.std.specs.Prelude.{slice_get, is_some, option_map, unwrap_or, if◌then◌else◌}
use Rattle.std.proofs.lemmas.Bool.{false≢true}
use Rattle.spl_bounds.specs.spl_meaning.Tables.{Source}
use Rattle.spl_bounds.specs.spl_meaning.Bodies.{Reached, reached_behind, main_body, program_from, program_of, data_words}
use Rattle.spl_bounds.specs.spl_branch.declared.modules.Module.{Module}
use Rattle.spl_bounds.specs.mpe_segmenter.Names.{Part, parts}
use Rattle.spl_bounds.specs.mpe_segmenter.Entries.{own_count, owned, either}
use Rattle.spl_bounds.specs.mpe_segmenter.Programs.{main_at, main_from}
use Rattle.spl_bounds.specs.mpe_segmenter.Sites.{IsModule}
use Rattle.spl_bounds.specs.spl_scopes.Scopes.{Placed, first_reached, placed_units, global_places}
use Rattle.spl_bounds.specs.spl_module_code.Modules.{AreModules, program_uses}
use Rattle.spl_callable.specs.spl_routines.Among.{IsIn, at_front, behind}
use Rattle.spl_callable.proofs.spl_routines_proofs.ListLemmas.{in_middle}
use Rattle.spl_callable.proofs.spl_routines_proofs.ModuleLemmas.{in_program, ModuleOf, modules_of_units}
use Rattle.spl_carried.specs.Covered.{main_count}

-- ---- segments

-- a module with the main body is among those of a segment, behind these
record HasMain (first : ℕ) (ms : List Module) (entry : ℕ) : Type 0 where
  front : List Module
  here : Module
  back : List Module
  is : ms ≡ front ++ here ∷ back
  offset : ℕ
  main : here.main ≡ Some offset
  place : entry ≡ first + owned front + length here.defines.items

some_there : (o : Option ℕ) → is_some o ≡ true → (k : ℕ) × (o ≡ Some k)
some_there (Some k) e = (k, refl)
some_there None e = absurd (false≢true e)

pub same_entry : (a b : ℕ) → Some a ≡ Some b → a ≡ b
same_entry a b e = ap (λ (o : Option ℕ). unwrap_or o 0) e

module_with_main : (first : ℕ) (ms : List Module) (entry : ℕ) → main_at first ms ≡ Some entry → HasMain first ms entry
module_with_main first [] entry e = cc
module_with_main first (m ∷ ms) entry e = by (is_some m.main) refl e (λ f. module_with_main (first + own_count m) ms entry f) where
  by : (b : Bool) → is_some m.main ≡ b → (if b then Some (first + length m.defines.items) else main_at (first + own_count m) ms) ≡ Some entry
      → (main_at (first + own_count m) ms ≡ Some entry → HasMain (first + own_count m) ms entry) → HasMain first (m ∷ ms) entry
  by true s e rest =
      let there = some_there m.main s in
      let same = same_entry (first + length m.defines.items) entry e in
      record {
        front = [];
        here = m;
        back = ms;
        is = refl;
        offset = there.0;
        main = there.1;
        place = omega (arith, same);
      }
  by false s e rest =
      let r = rest e in
      let place = r.place in
      record {
        front = m ∷ r.front;
        here = r.here;
        back = r.back;
        is = ap (λ (xs : List Module). m ∷ xs) r.is;
        offset = r.offset;
        main = r.main;
        place = omega (arith, place);
      }

-- the segment with the main body, counted from one on
record PartWithMain (s : ℕ) (ps : List Part) (seg entry : ℕ) : Type 0 where
  number : ℕ
  part : Part
  is : seg ≡ s + number
  there : slice_get ps number ≡ Some part
  main : main_at 1 part.modules ≡ Some entry

abbrev pair : ℕ → ℕ → ℕ × ℕ
pair k n = (k, n)

first_of : Option (ℕ × ℕ) → ℕ
first_of None = 0
first_of (Some x) = x.0

second_of : Option (ℕ × ℕ) → ℕ
second_of None = 0
second_of (Some x) = x.1

same_pair : (k n j l : ℕ) → Some (pair k n) ≡ Some (pair j l) → (k ≡ j) × (n ≡ l)
unfolding first_of second_of
same_pair k n j l e = (ap first_of e, ap second_of e)

part_with_main : (s : ℕ) (ps : List Part) (seg entry : ℕ) → main_from s ps ≡ Some (seg, entry) → PartWithMain s ps seg entry
part_with_main s [] seg entry e = cc
part_with_main s (p ∷ ps) seg entry e = by (main_at 1 p.modules) refl e (λ f. part_with_main (s + 1) ps seg entry f) where
  by : (o : Option ℕ) → main_at 1 p.modules ≡ o → either (option_map (λ k. (s, k)) o) (main_from (s + 1) ps) ≡ Some (seg, entry)
      → (main_from (s + 1) ps ≡ Some (seg, entry) → PartWithMain (s + 1) ps seg entry) → PartWithMain s (p ∷ ps) seg entry
  by (Some k) f e rest =
      let two = same_pair s k seg entry e in
      let same = two.0 in
      record { number = 0; part = p; is = omega (arith, same); there = refl; main = f ∙ ap (λ (n : ℕ). Some n) two.1 }
  by None f e rest =
      let r = rest e in
      let is = r.is in
      record { number = suc r.number; part = r.part; is = omega (arith, is); there = r.there; main = r.main }

-- ---- modules

-- the main body of a program: its segment and entry, and its module there
pub record MainThere (us : List Source) (ms : List Module) (seg entry : ℕ) : Type 0 where
  pub front : List Module
  pub here : Module
  pub back : List Module
  pub is : IsModule (parts ms) seg front here back
  pub offset : ℕ
  pub main : here.main ≡ Some offset
  pub place : entry ≡ 1 + (owned front + length here.defines.items)
  pub of : ModuleOf (placed_units (first_reached us) us) here

pub main_there : (us : List Source) (ms : List Module) (seg entry : ℕ) → AreModules us ms → main_from 0 (parts ms) ≡ Some (seg, entry)
    → MainThere us ms seg entry
main_there us ms seg entry are e =
    let p = part_with_main 0 (parts ms) seg entry e in
    let m = module_with_main 1 p.part.modules entry p.main in
    let number = p.is in
    let place = m.place in
    let same : p.number ≡ seg = omega (arith, number) in
    let among : IsIn m.here p.part.modules = subst (λ (xs : List Module). IsIn m.here xs) (sym m.is) (in_middle m.here m.front m.back) in
    record {
      front = m.front;
      here = m.here;
      back = m.back;
      is = record { part = p.part; there = ap (λ (i : ℕ). slice_get (parts ms) i) (sym same) ∙ p.there; among = m.is };
      offset = m.offset;
      main = m.main;
      place = omega (arith, place);
      of = modules_of_units (program_uses us) (placed_units (first_reached us) us) ms m.here are (in_program ms p.number p.part m.here p.there among);
    }

-- ---- units

-- how many main bodies a unit has
abbrev own_main : Bool → ℕ
own_main subprogram = if subprogram then 0 else 1

-- where no unit has a main body, no placed one has
no_main : (at : Reached) (us : List Source) (p : Placed) → main_count us ≡ 0 → IsIn p (placed_units at us) → p.unit.subprogram ≡ true
no_main at [] p none k = elim k [ ]
no_main at (u ∷ us) p none k = by u.subprogram refl k (λ zero j. no_main (reached_behind u at) us p zero j) where
  by : (b : Bool) → u.subprogram ≡ b → IsIn p (placed_units at (u ∷ us))
      → (main_count us ≡ 0 → IsIn p (placed_units (reached_behind u at) us) → p.unit.subprogram ≡ true) → p.unit.subprogram ≡ true
  by true e (at_front same) rest = ap (λ (q : Placed). q.unit.subprogram) same ∙ e
  by true e (behind k) rest =
      let count : own_main u.subprogram ≡ 0 = ap own_main e in
      rest (omega (arith, none, count)) k
  by false e k rest =
      let count : own_main u.subprogram ≡ 1 = ap own_main e in
      absurd (omega (arith, none, count))

-- the main body of the only unit that has one is the program's
only_main : (words : ℕ) (at : Reached) (us : List Source) (p : Placed) → main_count us ≡ 1 → IsIn p (placed_units at us) → p.unit.subprogram ≡ false
    → (program_from words at us).main ≡ Some (main_body (global_places p) p.unit)
only_main words at [] p one k whole = elim k [ ]
only_main words at (u ∷ us) p one k whole = by u.subprogram refl k (λ single j. only_main words (reached_behind u at) us p single j whole) where
  by : (b : Bool) → u.subprogram ≡ b → IsIn p (placed_units at (u ∷ us))
      → (main_count us ≡ 1 → IsIn p (placed_units (reached_behind u at) us)
      → (program_from words (reached_behind u at) us).main ≡ Some (main_body (global_places p) p.unit))
      → (if u.subprogram then (program_from words (reached_behind u at) us).main else Some (main_body (global_places (record { at = at; unit = u })) u))
      ≡ Some (main_body (global_places p) p.unit)
  by true e (at_front same) rest = absurd (false≢true (sym whole ∙ ap (λ (q : Placed). q.unit.subprogram) same ∙ e))
  by true e (behind k) rest =
      let count : own_main u.subprogram ≡ 0 = ap own_main e in
      ap (λ (b : Bool). if b then (program_from words (reached_behind u at) us).main else Some (main_body (global_places (record { at = at; unit = u })) u)) e
      ∙ rest (omega (arith, one, count)) k
  by false e (at_front same) rest =
      ap (λ (b : Bool). if b then (program_from words (reached_behind u at) us).main else Some (main_body (global_places (record { at = at; unit = u })) u)) e
      ∙ ap (λ (q : Placed). Some (main_body (global_places q) q.unit)) (sym same)
  by false e (behind k) rest =
      let count : own_main u.subprogram ≡ 1 = ap own_main e in
      absurd (false≢true (sym whole ∙ no_main (reached_behind u at) us p (omega (arith, one, count)) k))

pub main_is : (us : List Source) (p : Placed) → main_count us ≡ 1 → IsIn p (placed_units (first_reached us) us) → p.unit.subprogram ≡ false
    → (program_of us).main ≡ Some (main_body (global_places p) p.unit)
main_is us p one k whole = only_main (data_words us) (first_reached us) us p one k whole
