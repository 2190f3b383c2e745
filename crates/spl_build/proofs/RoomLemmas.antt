-- The data words of units within limits are at most 32,000: cells and initial values are put among the words of zero, and add none.
use Rattle.std.proofs.Common.{ℕ, suc, ◌≡◌, ◌+◌, ◌*◌, ◌/◌, ◌<◌, ◌≤◌, Bool, true, false, nat_eq, ℤ, List, [], ◌∷◌, length, get_or, Option, None, Some, refl, sym, ap, ◌∙◌, arith}
use Rattle.std.specs.Prelude.{if◌then◌else◌, nat_lt, ◌⊎◌}
use Rattle.std.specs.List.{slice_get}
use Rattle.std.proofs.Common.{inl, inr}
use Rattle.std.proofs.lemmas.Bool.Decides.{nat_tests}
use Rattle.std.proofs.lemmas.Option.{slice_get_cases}
use Rattle.spl_tree.specs.declared.expressions.Kind.{Kind}
use Rattle.spl_tree.specs.declared.expressions.Kind.TheVariants as kind
use Rattle.spl_sound.specs.spl_meaning.Tables.{Source}
use Rattle.spl_sound.specs.spl_meaning.Limits.{first_full}
use Rattle.spl_sound.specs.spl_meaning.Sound.{IsSound}
use Rattle.spl_sound.specs.spl_meaning.Places.{Place, Cell, Initial, stored, changed, put_value, put_values, put_cells, put_initials}
use Rattle.spl_sound.specs.spl_meaning.Bodies.{data_words, program_of}
use Rattle.spl_sound.specs.spl_meaning.Runs.{global_address, zeros}
use Rattle.spl_gen_proc.proofs.spl_places_proofs.SoundLaws.{sound_new}
use Rattle.spl_fits.specs.spl_initials.Memory.{memory_of}
use Rattle.spl_fits.specs.Fits.{ProgramsFit}
use Rattle.spl_gen_proc.specs.spl_layout.declared.layouts.Layout.{Layout}
use Rattle.spl_gen_proc.specs.spl_layout.Layouts.{IsLayout}
use Rattle.spl_build.specs.Steps.{IsLaid}

-- there is no word from an address on
abbrev EndsAt : ℕ → (ℕ → Option ℕ) → Type 0
EndsAt n mem = (a : ℕ) → n ≤ a → mem a ≡ None

none_changed : (b : Bool) (v : ℕ) → (if b then changed None v else None) ≡ None
none_changed true v = refl
none_changed false v = refl

-- what is none stays none
stored_ends : (n a v : ℕ) (mem : ℕ → Option ℕ) → EndsAt n mem → EndsAt n (stored a v mem)
stored_ends n a v mem h b l = ap (λ (o : Option ℕ). if nat_eq a b then changed o v else o) (h b l) ∙ none_changed (nat_eq a b) v

value_ends : (n : ℕ) (k : Kind) (a j : ℕ) (v : ℤ) (mem : ℕ → Option ℕ) → EndsAt n mem → EndsAt n (put_value k a j v mem)
value_ends n kind.Double a j v mem h =
    stored_ends n (a + 2 * j) _ (stored (a + 2 * j + 1) _ mem) (stored_ends n (a + 2 * j + 1) _ mem h)
value_ends n kind.Byte a j v mem h = stored_ends n ((2 * a + j) / 2) _ mem h
value_ends n kind.Integer a j v mem h = stored_ends n (a + j) _ mem h
value_ends n kind.Logical a j v mem h = stored_ends n (a + j) _ mem h

values_end : (n : ℕ) (k : Kind) (a j : ℕ) (vs : List ℤ) (mem : ℕ → Option ℕ) → EndsAt n mem → EndsAt n (put_values k a j vs mem)
values_end n k a j [] mem h = h
values_end n k a j (v ∷ vs) mem h = values_end n k a (suc j) vs (put_value k a j v mem) (value_ends n k a j v mem h)

cells_end : (n : ℕ) (address : Place → ℕ) (cs : List Cell) (mem : ℕ → Option ℕ) → EndsAt n mem → EndsAt n (put_cells address cs mem)
cells_end n address [] mem h = h
cells_end n address (c ∷ cs) mem h = cells_end n address cs (stored (address c.place) _ mem) (stored_ends n (address c.place) _ mem h)

initials_end : (n : ℕ) (address : Place → ℕ) (is : List Initial) (mem : ℕ → Option ℕ) → EndsAt n mem → EndsAt n (put_initials address is mem)
initials_end n address [] mem h = h
initials_end n address (i ∷ is) mem h =
    initials_end n address is (put_values i.kind (address i.from) 0 i.values mem) (values_end n i.kind (address i.from) 0 i.values mem h)

no_word : (b : Bool) (o : Option ℕ) → b ≡ false → (if b then o else None) ≡ None
no_word true o e = cc
no_word false o e = refl

zeros_end : (n : ℕ) → EndsAt n (zeros n)
zeros_end n a l = no_word (nat_lt a n) (Some 0) (grind (arith, nat_tests, l))

-- a list has no more words than the addresses before which they end
ended_length : (ws : List ℕ) (n : ℕ) → slice_get ws n ≡ None → length ws ≤ n
ended_length ws n none = by (slice_get_cases ws n).1 where
  by : ((x : ℕ) × (n < length ws) × (slice_get ws n ≡ Some x) × (get_or ws n x ≡ x)) ⊎ ((length ws ≤ n) × (slice_get ws n ≡ None)) → length ws ≤ n
  by (inl h) = let d = sym none ∙ h.2 in cc
  by (inr h) = h.0

words_end : (ws : List ℕ) (n : ℕ) → EndsAt n (memory_of ws) → length ws ≤ n
unfolding memory_of
words_end ws n h = ended_length ws n (h n (omega arith))

pub few_words : (us : List Source) (l : Layout) → IsLayout us l → data_words us ≤ 32000 → length l.globals.items ≤ 32000
few_words us l laid few =
    let n = data_words us in
    let cells = put_cells global_address (program_of us).cells (zeros n) in
    let ends = initials_end n global_address (program_of us).initials cells (cells_end n global_address (program_of us).cells (zeros n) (zeros_end n)) in
    let short = words_end l.globals.items n (λ a le. ap (λ (mem : ℕ → Option ℕ). mem a) laid.globals ∙ ends a le) in
    omega (arith, short, few)

-- the layout of units that break no rule and pass no limit
pub laid_so : (us : List Source) (l : Layout) → ProgramsFit → IsSound us → IsLayout us l → first_full us ≡ None → IsLaid us l
laid_so us l fit sound laid within = record {
  layout = laid;
  within = within;
  few = few_words us l laid (fit us (sound_new us sound) within).data_area;
}
