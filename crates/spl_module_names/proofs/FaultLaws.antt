-- All faults but that of too many words are told by outlines, and that one comes last.
use Rattle.std.proofs.Common.{◌≡◌, ℕ, nat_lt, Bool, true, false, if◌then◌else◌, List, [], ◌∷◌, map, length, Option, Some, None, refl, sym, ap, ◌∙◌}
use Rattle.std.specs.Prelude.{option_map, ◌==◌}
use Rattle.spl_built.specs.spl_tree.declared.names_and_places.Name.{Name}
use Rattle.spl_built.specs.spl_branch.declared.modules.Module.{Module}
use Rattle.spl_built.specs.mpe_segmenter.declared.faults.PrepFault.{PrepFault}
use Rattle.spl_built.specs.mpe_segmenter.declared.faults.PrepFault.TheVariants as f
use Rattle.spl_built.specs.mpe_segmenter.Names.{Part, parts, segment_names}
use Rattle.spl_built.specs.mpe_segmenter.Entries.{either}
use Rattle.spl_built.specs.mpe_segmenter.Counts.{entries_in, entries_full, segment_full}
use Rattle.spl_built.specs.mpe_segmenter.Faults.{mains, first_repeat, callables, unresolved, Fault, NoMain, TwoMains, Doubled, Unresolved, SegmentsFull, EntriesFull, SegmentFull, fault_of, main_faults, name_faults, segment_faults, first_fault}
use Rattle.spl_module_names.specs.Outlines.{outline_of, counted}
use Rattle.spl_module_names.specs.Faults.{counts_words, FirstFaultsAgree, tells_words, OneFaultIsTold, NoneIsBuilt}
use Rattle.spl_module_names.proofs.OutlineLaws.{one_outline}
use Rattle.spl_module_names.proofs.Through.{same}

-- ---- the first fault is one of outlines, or that of words

full_by : List (List ℕ × ℕ) → Option (List ℕ × ℕ)
full_by [] = None
full_by (c ∷ cs) = if nat_lt 127 c.1 then Some c else full_by cs

full_is : (ps : List Part) → entries_full ps ≡ full_by (map counted ps)
unfolding full_by
full_is [] = refl
full_is (p ∷ ps) = ap (λ (o : Option (List ℕ × ℕ)). if nat_lt 127 (entries_in p) then Some (p.name, entries_in p) else o) (full_is ps)

entry_faults : Option (List ℕ × ℕ) → Option Fault
entry_faults o = option_map (λ p. EntriesFull p.0 p.1) o

word_faults : Option (List ℕ × ℕ) → Option Fault
word_faults o = option_map (λ p. SegmentFull p.0 p.1) o

-- all that outlines tell
named_faults : List Module → Option Fault
named_faults ms =
    either (main_faults (mains ms))
    (either (name_faults ms) (either (segment_faults (length (segment_names ms))) (entry_faults (entries_full (parts ms)))))

regroup : {A : Type 0} (a b c d e : Option A) → either a (either b (either c (either d e))) ≡ either (either a (either b (either c d))) e
regroup (Some x) b c d e = refl
regroup None (Some x) c d e = refl
regroup None None (Some x) d e = refl
regroup None None None d e = refl

split : (ms : List Module) → first_fault ms ≡ either (named_faults ms) (word_faults (segment_full (parts ms)))
unfolding named_faults entry_faults word_faults
split ms =
    regroup (main_faults (mains ms)) (name_faults ms) (segment_faults (length (segment_names ms))) (entry_faults (entries_full (parts ms)))
    (word_faults (segment_full (parts ms)))

named_same : (ms ns : List Module) → map outline_of ms ≡ map outline_of ns → named_faults ms ≡ named_faults ns
unfolding named_faults
named_same ms ns e =
    let s = same ms ns e in
    let full = full_is (parts ms) ∙ ap full_by s.counts ∙ sym (full_is (parts ns)) in
    λ i. either (main_faults (s.mains i))
    (either (either (option_map Doubled (first_repeat [] (s.callables i))) (option_map Unresolved (s.unresolved i)))
    (either (segment_faults (length (s.segments i))) (entry_faults (full i))))

-- one in which words have no part is among them
not_of_words : (o : Option (List ℕ × ℕ)) (x : Fault) {A : Type 0} → word_faults o ≡ Some x → counts_words x ≡ false → A
unfolding word_faults
not_of_words None x is other = cc
not_of_words (Some p) x is other = clash (ap words_in is ∙ other)
  where
    words_in : Option Fault → Bool
    words_in None = false
    words_in (Some x) = counts_words x

    clash : {A : Type 0} → true ≡ false → A
    clash e = cc

among_named : (o : Option Fault) (w : Option (List ℕ × ℕ)) (x : Fault) → either o (word_faults w) ≡ Some x → counts_words x ≡ false → o ≡ Some x
among_named (Some y) w x is other = is
among_named None w x is other = not_of_words w x is other

pub faults_agree : FirstFaultsAgree
faults_agree us ms ns x are others first other =
    let named = among_named (named_faults ms) (segment_full (parts ms)) x (sym (split ms) ∙ first) other in
    split ns
    ∙ ap (λ (o : Option Fault). either o (word_faults (segment_full (parts ns)))) (sym (named_same ms ns (one_outline us ms ns are others)) ∙ named)

-- ---- where no segment has too many words, no fault counts them

words_if : Option Fault → Bool
words_if None = false
words_if (Some x) = counts_words x

none_behind : (a b : Option Fault) → words_if a ≡ false → words_if b ≡ false → words_if (either a b) ≡ false
none_behind (Some x) b first rest = first
none_behind None b first rest = rest

main_named : (a b : Bool) → words_if (if a then Some NoMain else if b then Some TwoMains else None) ≡ false
unfolding words_if
main_named true b = refl
main_named false true = refl
main_named false false = refl

doubled_named : (o : Option (List ℕ)) → words_if (option_map Doubled o) ≡ false
unfolding words_if
doubled_named None = refl
doubled_named (Some x) = refl

unresolved_named : (o : Option (List ℕ)) → words_if (option_map Unresolved o) ≡ false
unfolding words_if
unresolved_named None = refl
unresolved_named (Some x) = refl

segments_named : (n : ℕ) (b : Bool) → words_if (if b then Some (SegmentsFull n) else None) ≡ false
unfolding words_if
segments_named n true = refl
segments_named n false = refl

entries_named : (o : Option (List ℕ × ℕ)) → words_if (option_map (λ p. EntriesFull p.0 p.1) o) ≡ false
unfolding words_if
entries_named None = refl
entries_named (Some p) = refl

words_named : (o : Option (List ℕ × ℕ)) → o ≡ None → words_if (option_map (λ p. SegmentFull p.0 p.1) o) ≡ false
unfolding words_if
words_named None is = refl
words_named (Some p) is = cc

pub counts_none : (ms : List Module) (x : Fault) → segment_full (parts ms) ≡ None → first_fault ms ≡ Some x → counts_words x ≡ false
unfolding words_if
counts_none ms x within is =
    let doubled = option_map Doubled (first_repeat [] (callables ms)) in
    let unmet = option_map Unresolved (unresolved ms) in
    let count : ℕ = length (segment_names ms) in
    let entries : Option Fault = option_map (λ p. EntriesFull p.0 p.1) (entries_full (parts ms)) in
    let words : Option Fault = option_map (λ p. SegmentFull p.0 p.1) (segment_full (parts ms)) in
    let sizes = none_behind entries words (entries_named (entries_full (parts ms))) (words_named (segment_full (parts ms)) within) in
    let segments = none_behind (segment_faults count) (either entries words) (segments_named count (nat_lt 62 count)) sizes in
    let names = none_behind doubled unmet (doubled_named (first_repeat [] (callables ms))) (unresolved_named (unresolved ms)) in
    let late = none_behind (name_faults ms) (either (segment_faults count) (either entries words)) names segments in
    ap words_if (sym is) ∙ none_behind (main_faults (mains ms)) (either (name_faults ms) (either (segment_faults count) (either entries words))) (main_named (mains ms == 0) (nat_lt 1 (mains ms))) late

-- ---- faults as they are told

-- the name of some letters
named : List ℕ → Name
named x = record { text = record { items = x } }

told_by : Option Fault → PrepFault
told_by None = f.NoMemory
told_by (Some NoMain) = f.NoMain
told_by (Some TwoMains) = f.TwoMains
told_by (Some (Doubled x)) = f.Doubled (named x)
told_by (Some (Unresolved x)) = f.Unresolved (named x)
told_by (Some (SegmentsFull n)) = f.SegmentsFull n
told_by (Some (EntriesFull x n)) = f.EntriesFull (named x) n
told_by (Some (SegmentFull x n)) = f.SegmentFull (named x) n

told_is : (g : PrepFault) → told_by (fault_of g) ≡ g
unfolding told_by named
told_is f.NoMain = refl
told_is f.TwoMains = refl
told_is (f.Doubled n) = refl
told_is (f.Unresolved n) = refl
told_is (f.SegmentsFull n) = refl
told_is (f.EntriesFull x n) = refl
told_is (f.SegmentFull x n) = refl
told_is f.NoMemory = refl

told_words : (g : PrepFault) → words_if (fault_of g) ≡ tells_words g
unfolding words_if
told_words f.NoMain = refl
told_words f.TwoMains = refl
told_words (f.Doubled n) = refl
told_words (f.Unresolved n) = refl
told_words (f.SegmentsFull n) = refl
told_words (f.EntriesFull x n) = refl
told_words (f.SegmentFull x n) = refl
told_words f.NoMemory = refl

no_words : (g : PrepFault) (x : Fault) → fault_of g ≡ Some x → tells_words g ≡ false → counts_words x ≡ false
unfolding words_if
no_words g x is other = sym (ap words_if is) ∙ told_words g ∙ other

pub one_told : OneFaultIsTold
one_told us g h other a b =
    let first = faults_agree us a.modules b.modules a.fails.fault a.are_modules b.are_modules a.fails.first (no_words g a.fails.fault a.fails.told other) in
    sym (told_is h) ∙ ap told_by (b.fails.told ∙ sym b.fails.first ∙ first ∙ sym a.fails.told) ∙ told_is g

pub none_built : NoneIsBuilt
none_built us g p other a b =
    let first = faults_agree us a.modules b.modules a.fails.fault a.are_modules b.are_modules a.fails.first (no_words g a.fails.fault a.fails.told other) in
    clash a.fails.fault (sym b.linked.faultless ∙ first)
  where
    clash : (x : Fault) → None ≡ Some x → ⊥
    clash x e = cc
