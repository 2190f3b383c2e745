-- The entries of a segment: its own, and those of what it wants, which the trees of its bodies call.
use Rattle.std.proofs.Common.{◌≡◌, ◌≤◌, ◌⊎◌, inl, inr, ℕ, zero, suc, ◌+◌, ◌&&◌, ◌||◌, nat_eq, not, Bool, true, false, if◌then◌else◌, List, [], ◌∷◌, ◌++◌, map, length, Some, is_some, refl, sym, ap, subst, ◌∙◌, arith}
use Rattle.std.specs.Global.{Vec}
use Rattle.std.specs.List.{list_all, slice_get}
use Rattle.std.proofs.lemmas.Bool.{and_parts, and_from, eqb-true}
use Rattle.std.proofs.lemmas.List.{length-append, length-map}
use Rattle.std.proofs.lemmas.List.Folds.{list_all-append}
use Rattle.spl_carries.specs.spl_meaning.Names.{find, same_flag, same_name}
use Rattle.spl_carries.specs.spl_meaning.Tables.{Source, Routine, routines_of}
use Rattle.spl_carries.specs.spl_meaning.Places.{sum}
use Rattle.spl_carries.specs.spl_meaning.Limits.{joined}
use Rattle.spl_carries.specs.spl_meaning.Bound.{segment_name, stands_in, among_segment, routines_in, has_main, names_in_segment, own_entries, entries, Want}
use Rattle.spl_carries.specs.spl_meaning.Bound as bound
use Rattle.spl_module_words.specs.spl_branch.declared.modules.Want as finished
use Rattle.spl_module_words.specs.spl_branch.declared.modules.Module.{Module}
use Rattle.spl_module_words.specs.spl_code.Parts.{wants_of}
use Rattle.spl_module_words.specs.spl_code.Parts as parts_of_code
use Rattle.spl_called_names.specs.spl_scopes.Scopes.{Placed, first_reached}
use Rattle.spl_module_words.specs.spl_module_code.Modules.{uses_of, program_uses, numbered, IsModuleOf, AreModules}
use Rattle.spl_module_words.specs.spl_places.Programs.{Each}
use Rattle.spl_sound_labels.specs.Labels.{NoSubroutines}
use Rattle.spl_sound_labels.proofs.InnerLaws.{sound_none}
use Rattle.spl_called_names.specs.Called.{Testing, routine_passes, routines_pass, main_passes, main_there, unit_passes}
use Rattle.spl_called_names.proofs.Modules.{passing_module}
use Rattle.spl_module_words.specs.mpe_segmenter.Names.{is_among, modules_of, Part, part_from, segment_names}
use Rattle.spl_module_words.specs.mpe_segmenter.Entries.{owns, called_at, Wanted, wanted_of, is_met, wants_from, all_wants, owned}
use Rattle.spl_module_words.specs.mpe_segmenter.Faults.{callables}
use Rattle.spl_module_words.specs.mpe_segmenter.Counts.{entries_in}
use Rattle.spl_module_words.proofs.mpe_segmenter_proofs.EntryLemmas.{length-owns}
use Rattle.spl_module_words.proofs.mpe_segmenter_proofs.HomeLemmas.{called_among}
use Rattle.spl_module_words.proofs.mpe_segmenter_proofs.PartLemmas.{equal_is}
use Rattle.spl_module_words.proofs.mpe_segmenter_proofs.NameLemmas.{same_self}
use Rattle.spl_bounds.specs.Bounds.{PartsHaveFewEntries}
use Rattle.spl_bounds.proofs.Tables.{as_bound, few_wants}
use Rattle.spl_bounds.proofs.Covers.{covered, named_passes, all_covered}
use Rattle.spl_module_words.proofs.Segments.{segment_named}
use Rattle.spl_bounds.proofs.Modules.{among_left, among_right, all_in_units, astray, owned_in_units, UsesAmong, here_met}

-- ---- 1. what passes by a segment's name passes by its number

routines_number : (t : Testing) (u : Source) (x : List ℕ) (g : ℕ) (rs : List Routine) → segment_name u g ≡ x → list_all (routine_passes t) (among_segment u x rs) ≡ true
    → routines_pass t g rs ≡ true
routines_number t u x g [] is h = refl
routines_number t u x g (r ∷ rs) is h =
    by (nat_eq r.heading.segment g) (same_name (segment_name u r.heading.segment) x) (there r.heading.segment) h (λ e. routines_number t u x g rs is e)
  where
    there : (k : ℕ) → nat_eq k g ≡ true → same_name (segment_name u k) x ≡ true
    there k same = ap (λ i. same_name (segment_name u i) x) (eqb-true k g same) ∙ ap (λ y. same_name y x) is ∙ same_self x

    by : (b c : Bool) → (b ≡ true → c ≡ true) → list_all (routine_passes t) (if c then r ∷ among_segment u x rs else among_segment u x rs) ≡ true
        → (list_all (routine_passes t) (among_segment u x rs) ≡ true → routines_pass t g rs ≡ true)
        → ((if b then routine_passes t r else true) && routines_pass t g rs) ≡ true
    by true true e h rest = let both = and_parts (routine_passes t r) (list_all (routine_passes t) (among_segment u x rs)) h in and_from (routine_passes t r) (routines_pass t g rs) both.0 (rest both.1)
    by true false e h rest = let clash = e refl in cc
    by false true e h rest = let both = and_parts (routine_passes t r) (list_all (routine_passes t) (among_segment u x rs)) h in rest both.1
    by false false e h rest = rest h

unit_number : (t : Testing) (u : Source) (x : List ℕ) (g : ℕ) → segment_name u g ≡ x → named_passes t x u ≡ true → unit_passes t u g ≡ true
unit_number t u x g is h =
    let both = and_parts (list_all (routine_passes t) (routines_in u x)) (if has_main u x then main_passes t u else true) h in
    and_from (routines_pass t g (routines_of u)) (if main_there u g then main_passes t u else true) (routines_number t u x g (routines_of u) is both.0)
    (by u.subprogram (nat_eq u.tree.segment g) (same_name (segment_name u u.tree.segment) x) (there u.tree.segment) both.1)
  where
    there : (k : ℕ) → nat_eq k g ≡ true → same_name (segment_name u k) x ≡ true
    there k same = ap (λ i. same_name (segment_name u i) x) (eqb-true k g same) ∙ ap (λ y. same_name y x) is ∙ same_self x

    by : (sub b c : Bool) → (b ≡ true → c ≡ true) → (if not sub && c then main_passes t u else true) ≡ true → (if not sub && b then main_passes t u else true) ≡ true
    by true b c e h = refl
    by false false c e h = refl
    by false true true e h = h
    by false true false e h = let clash = e refl in cc

-- ---- 2. what the modules of a segment want passes

-- the same test of a want as the segmenter sees it
seen : Testing → Wanted → Bool
seen t w = t (record { name = w.name; gate = w.gate })

wants_pass : (t : Testing) (ws : List finished.Want) → list_all (seen t) (map wanted_of ws) ≡ list_all t (wants_of ws)
unfolding seen
wants_pass t [] = refl
wants_pass t (w ∷ ws) = ap (λ (b : Bool). t (parts_of_code.wanted_of w) && b) (wants_pass t ws)

module_passes : Testing → Module → Bool
module_passes t m = list_all (seen t) (map wanted_of m.wants.items)

one_passes : (t : Testing) (x : List ℕ) (p : Placed) (g : ℕ) (m : Module) → named_passes t x p.unit ≡ true → find (numbered 0 p.unit.segments) x ≡ Some g
    → IsModuleOf p x g m → module_passes t m ≡ true
unfolding module_passes
one_passes t x p g m h found of =
    wants_pass t m.wants.items
    ∙ ap (λ (v : Vec finished.Want). list_all t (wants_of v.items)) of.wants
    ∙ ap (list_all t) of.is.wants
    ∙ passing_module t p g (unit_number t p.unit x g (segment_named p.unit x g found) h)

all_wants_pass : (t : Testing) (ms : List Module) → list_all (module_passes t) ms ≡ true → list_all (seen t) (all_wants ms) ≡ true
unfolding module_passes
all_wants_pass t [] h = refl
all_wants_pass t (m ∷ ms) h =
    let both = and_parts (module_passes t m) (list_all (module_passes t) ms) h in
    list_all-append (seen t) (map wanted_of m.wants.items) (all_wants ms)
    ∙ and_from (list_all (seen t) (map wanted_of m.wants.items)) (list_all (seen t) (all_wants ms)) both.0 (all_wants_pass t ms both.1)

-- ---- 3. so each has its entry: a procedure's, or one that is counted

-- those that are counted: procedures that have no module, and the wants of the bound
all_counted : List (List ℕ) → List Want → List Want
all_counted lost ws = map (λ (q : List ℕ). record { gate = false; name = q }) lost ++ ws

in_last : (lost : List (List ℕ)) (ws : List Want) (w : Want) → bound.is_wanted ws w ≡ true → bound.is_wanted (all_counted lost ws) w ≡ true
unfolding all_counted
in_last [] ws w h = h
in_last (q ∷ lost) ws w h = by (same_flag false w.gate && same_name q w.name) (in_last lost ws w h)
  where
    by : (b : Bool) → bound.is_wanted (all_counted lost ws) w ≡ true → (if b then true else bound.is_wanted (all_counted lost ws) w) ≡ true
    by true h = refl
    by false h = h

in_lost : (lost : List (List ℕ)) (ws : List Want) (x : List ℕ) → stands_in lost x ≡ true → bound.is_wanted (all_counted lost ws) (record { gate = false; name = x }) ≡ true
unfolding all_counted
in_lost [] ws x h = cc
in_lost (q ∷ lost) ws x h = by (same_name x q) (same_name q x) (turned x q) h (λ e. in_lost lost ws x e)
  where
    turned : (x q : List ℕ) → same_name x q ≡ true → same_name q x ≡ true
    turned x q is = ap (λ y. same_name y x) (sym (equal_is x q is)) ∙ same_self x

    by : (b c : Bool) → (b ≡ true → c ≡ true) → (if b then true else stands_in lost x) ≡ true
        → (stands_in lost x ≡ true → bound.is_wanted (all_counted lost ws) (record { gate = false; name = x }) ≡ true)
        → (if c then true else bound.is_wanted (all_counted lost ws) (record { gate = false; name = x })) ≡ true
    by b true e h rest = refl
    by true false e h rest = let clash = e refl in cc
    by false false e h rest = rest h

has_entry : (ms : List Module) (lost : List (List ℕ)) (here : List (List ℕ)) (ws : List Want)
    → ((q : List ℕ) → stands_in here q ≡ true → (is_among q (callables ms) ≡ true) ⊎ (stands_in lost q ≡ true)) → (w : Wanted) → seen (covered here ws) w ≡ true
    → (is_met (owns 0 ms) w || bound.is_wanted (all_counted lost ws) (as_bound w)) ≡ true
unfolding seen
has_entry ms lost here ws met w h = by w.gate w.name (stands_in here w.name) refl h
  where
    counted : (b : Bool) (v : Want) → bound.is_wanted ws v ≡ true → (b || bound.is_wanted (all_counted lost ws) v) ≡ true
    counted true v h = refl
    counted false v h = in_last lost ws v h

    one : (q : List ℕ) → (is_among q (callables ms) ≡ true) ⊎ (stands_in lost q ≡ true)
        → (is_some (called_at q (owns 0 ms)) || bound.is_wanted (all_counted lost ws) (record { gate = false; name = q })) ≡ true
    one q (inl there) = ap (λ (b : Bool). b || bound.is_wanted (all_counted lost ws) (record { gate = false; name = q })) (called_among ms 0 q ∙ there)
    one q (inr there) = by (is_some (called_at q (owns 0 ms))) (in_lost lost ws q there)
      where
        by : (b : Bool) → bound.is_wanted (all_counted lost ws) (record { gate = false; name = q }) ≡ true
            → (b || bound.is_wanted (all_counted lost ws) (record { gate = false; name = q })) ≡ true
        by true h = refl
        by false h = h

    by : (gate : Bool) (q : List ℕ) (b : Bool) → stands_in here q ≡ b → ((not gate && b) || bound.is_wanted ws (record { gate = gate; name = q })) ≡ true
        → ((not gate && is_some (called_at q (owns 0 ms))) || bound.is_wanted (all_counted lost ws) (record { gate = gate; name = q })) ≡ true
    by true q b is h = in_last lost ws (record { gate = true; name = q }) h
    by false q true is h = one q (met q is)
    by false q false is h = counted (is_some (called_at q (owns 0 ms))) (record { gate = false; name = q }) h

each_has : {A : Type 0} (f g : A → Bool) (xs : List A) → ((x : A) → f x ≡ true → g x ≡ true) → list_all f xs ≡ true → list_all g xs ≡ true
each_has f g [] h all = refl
each_has f g (x ∷ xs) h all = let both = and_parts (f x) (list_all f xs) all in and_from (g x) (list_all g xs) (h x both.0) (each_has f g xs h both.1)

-- ---- 4. a segment

all_used : (names : List (List ℕ)) (us : List Source) → ((x : List ℕ) → is_among x (joined uses_of us) ≡ true → is_among x names ≡ true) → Each (UsesAmong names) us
all_used names [] h = tt
all_used names (s ∷ us) h =
    ((λ x e. h x (among_left x (uses_of s) (joined uses_of us) e)), all_used names us (λ x e. h x (among_right x (uses_of s) (joined uses_of us) e)))

few_together : (own lost ws n m wanted : ℕ) → own + lost ≤ n → m ≡ lost + ws → wanted ≤ m → own + wanted ≤ n + ws
few_together own lost ws n m wanted h1 h2 h3 = omega (arith, h1, h2, h3)

few_there : (us : List Source) (ms : List Module) (x : List ℕ) → Each NoSubroutines us → AreModules us ms → entries_in (part_from ms x) ≤ entries us x
unfolding all_counted
few_there us ms x none are =
    let here = names_in_segment us x in
    let ws = bound.wants_from x here [] us in
    let there = modules_of x ms in
    let lost = astray x us in
    let t : Testing = covered here ws in
    let passing = all_in_units (module_passes t) (named_passes t x) x (program_uses us) (first_reached us) us ms (λ p g m h found of. one_passes t x p g m h found of)
    (all_covered x here us) are in
    let wanting = all_wants_pass t there passing in
    let has = each_has (seen t) (λ (w : Wanted). is_met (owns 0 there) w || bound.is_wanted (all_counted lost ws) (as_bound w)) (all_wants there)
    (has_entry there lost here ws (λ q e. here_met x q (program_uses us) (first_reached us) us ms (all_used (program_uses us) us (λ y h. h)) are e)) wanting in
    let wanted = few_wants (all_counted lost ws) (owns 0 there) (all_wants there) has in
    let own = owned_in_units x (program_uses us) (first_reached us) us ms none are in
    let count = length_counted lost ws in
    subst (λ (k : ℕ). k + length (wants_from (owns 0 there) [] (all_wants there)) ≤ sum (own_entries x) us + length ws) (sym (length-owns there 0))
    (few_together (owned there) (length lost) (length ws) (sum (own_entries x) us) (length (all_counted lost ws)) (length (wants_from (owns 0 there) [] (all_wants there))) own count wanted)
  where
    length_counted : (lost : List (List ℕ)) (ws : List Want) → length (all_counted lost ws) ≡ length lost + length ws
    length_counted lost ws =
        length-append (map (λ (q : List ℕ). record { gate = false; name = q }) lost) ws
        ∙ ap (λ n. n + length ws) (length-map lost (λ (q : List ℕ). record { gate = false; name = q }))

pub part_named : (ms : List Module) (names : List (List ℕ)) (s : ℕ) (q : Part) → slice_get (map (part_from ms) names) s ≡ Some q → part_from ms q.name ≡ q
part_named ms [] s q is = cc
part_named ms (x ∷ names) zero q is = let same : part_from ms x ≡ q = cc in subst (λ (p : Part). part_from ms p.name ≡ p) same refl
part_named ms (x ∷ names) (suc s) q is = part_named ms names s q is

pub few_entries : PartsHaveFewEntries
few_entries us ms s q sound are there =
    subst (λ (p : Part). entries_in p ≤ entries us q.name) (part_named ms (segment_names ms) s q there) (few_there us ms q.name (sound_none us sound) are)
