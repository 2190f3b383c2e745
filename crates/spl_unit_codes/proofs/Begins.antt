-- Codes before the first body: a mark for each entry and one for a main body, segment by segment.
use Rattle.std.proofs.Common.{◌≡◌, ◌<◌, ◌⊎◌, inl, inr, ℕ, suc, ◌+◌, Bool, true, false, not, ◌&&◌, nat_eq, List, [], ◌∷◌, ◌++◌, map, length, get_or, replicate, Option, Some, sym, ap, subst, ◌∙◌, add-one}
use Rattle.std.specs.Prelude.{option_map}
use Rattle.std.specs.List.{slice_get}
use Rattle.std.proofs.lemmas.Option.{slice_get-map, slice_get-get_or}
use Rattle.spl_tree.specs.declared.names_and_places.Name.{Name}
use Rattle.spl_tree.specs.declared.units.SplUnit.{SplUnit}
use Rattle.spl_tree.specs.Views.{letters}
use Rattle.spl_module_code.specs.spl_meaning.Tables.{Source}
use Rattle.spl_module_code.specs.spl_sound.Spelled.{source_of}
use Rattle.spl_branch.specs.declared.buffer.Code.{Code}
use Rattle.spl_module_code.specs.spl_modules.Made.{Made, made_of}
use Rattle.spl_unit_codes.specs.declared.growing.Growing.{Growing}
use Rattle.spl_unit_codes.specs.Begun.{IsBegun, has_main}
use Rattle.spl_unit_codes.proofs.ListWalks.{pushed_cases, one_longer}

-- ---- the marks of a segment

-- a code with so many marks, and nothing else behind its entries
pub record Laid (name : List ℕ) (es : List Made) (outer : Option ℕ) (n : ℕ) (c : Code) : Type 0 where
  pub segment : letters c.segment ≡ name
  pub pieces : c.pieces.items ≡ []
  pub marks : c.marks.items ≡ replicate n false
  pub entries : map made_of c.entries.items ≡ es
  pub wants : c.wants.items ≡ []
  pub main : c.main ≡ outer

-- ---- segment by segment

-- a unit that is no subprogram has its main body in its segment
pub main_there : (u : SplUnit) (n i : ℕ) (b : Bool) → u.subprogram ≡ false → i ≡ u.segment → b ≡ nat_eq i n → b ≡ has_main (source_of u) n
main_there u n i b outer at is =
    is ∙ ap (λ k. nat_eq k n) at ∙ ap (λ s. not s && nat_eq u.segment n) (sym outer)

-- a subprogram has none
pub main_nowhere : (u : SplUnit) (n : ℕ) (b : Bool) → u.subprogram ≡ true → b ≡ not u.subprogram → b ≡ has_main (source_of u) n
main_nowhere u n b sub is = is ∙ ap not sub ∙ ap (λ s. not s && nat_eq u.segment n) (sym sub)

-- the codes of the first segments
pub record FirstBegun (u : Source) (made : ℕ → List Made) (n : ℕ) (parts : List Growing) : Type 0 where
  pub number : length parts ≡ n
  pub each : (g : ℕ) (x : Growing) → slice_get parts g ≡ Some x → (name : List ℕ) × (slice_get u.segments g ≡ Some name) × IsBegun name (made g) (has_main u g) x

-- the code of one segment more
pub begun_more : (u : Source) (made : ℕ → List Made) (n : ℕ) (parts new : List Growing) (names : List Name) (name : Name) (x : Growing)
    → FirstBegun u made n parts → u.segments ≡ map letters names → n < length names → name ≡ get_or names n name
    → IsBegun (letters name) (made n) (has_main u n) x → new ≡ parts ++ x ∷ [] → FirstBegun u made (n + 1) new
begun_more u made n parts new names name x k all lt is one push = record {
  number = ap length push ∙ one_longer parts x ∙ ap suc k.number ∙ sym (add-one n);
  each = λ g y e. by g y (pushed_cases parts x g y (subst (λ xs. slice_get xs g ≡ Some y) push e));
}
  where
    there : slice_get u.segments n ≡ Some (letters name)
    there =
        ap (λ xs. slice_get xs n) all ∙ slice_get-map letters names n ∙ ap (λ o. option_map letters o) (slice_get-get_or names n name lt)
        ∙ ap (λ m. Some (letters m)) (sym is)

    by : (g : ℕ) (y : Growing) → (slice_get parts g ≡ Some y) ⊎ ((g ≡ length parts) × (x ≡ y))
        → (name : List ℕ) × (slice_get u.segments g ≡ Some name) × IsBegun name (made g) (has_main u g) y
    by g y (inl h) = k.each g y h
    by g y (inr h) =
        subst (λ (z : Growing). (name : List ℕ) × (slice_get u.segments g ≡ Some name) × IsBegun name (made g) (has_main u g) z) h.1
        (subst (λ (i : ℕ). (name : List ℕ) × (slice_get u.segments i ≡ Some name) × IsBegun name (made i) (has_main u i) x) (sym (h.0 ∙ k.number))
        (letters name, there, one))
