-- What calls want is among the wants that are counted behind them. A want that a procedure of the segment may meet is not counted.
use Rattle.std.proofs.Common.{◌≡◌, ℕ, ◌&&◌, ◌||◌, not, Bool, true, false, if◌then◌else◌, List, [], ◌∷◌, ◌++◌, codes, Option, Some, None, refl, ap}
use Rattle.std.specs.List.{list_all}
use Rattle.std.proofs.lemmas.Bool.{and_from}
use Rattle.spl_carries.specs.spl_tree.StatementTrees.{statements}
use Rattle.spl_carries.specs.spl_meaning.Names as n
use Rattle.spl_carries.specs.spl_meaning.Names.{Names, Sort, find, same_flag, same_name}
use Rattle.spl_carries.specs.spl_meaning.Tables.{Source, Routine, Subroutine, unit_table, routine_names, routine_subroutines, unit_subroutines, subroutine_names}
use Rattle.spl_carries.specs.spl_meaning.Bound.{statement_names, statements_names, Want, is_wanted, with_want, stands_in, with_call, with_calls, with_subroutines, with_routines, with_main, with_unit, wants_from, routines_in, has_main}
use Rattle.spl_module_words.specs.spl_code.Parts.{Wanted}
use Rattle.spl_called_names.specs.Called.{Testing, call_passes, calls_pass, inner_passes, inners_pass, routine_passes, main_passes}
use Rattle.spl_bounds.proofs.Tables.{bound_self}

-- ---- wants more

record Sub (ws vs : List Want) : Type 0 where
  stays : (w : Want) → is_wanted ws w ≡ true → is_wanted vs w ≡ true

same_sub : (ws : List Want) → Sub ws ws
same_sub ws = record { stays = λ w h. h }

then_sub : {us vs ws : List Want} → Sub us vs → Sub vs ws → Sub us ws
then_sub a b = record { stays = λ w h. b.stays w (a.stays w h) }

pushed : (vs : List Want) (v w : Want) → is_wanted vs w ≡ true → is_wanted (vs ++ v ∷ []) w ≡ true
pushed [] v w h = cc
pushed (x ∷ vs) v w h = by (same_flag x.gate w.gate && same_name x.name w.name) h (λ g. pushed vs v w g)
  where
    by : (b : Bool) → (if b then true else is_wanted vs w) ≡ true → (is_wanted vs w ≡ true → is_wanted (vs ++ v ∷ []) w ≡ true)
        → (if b then true else is_wanted (vs ++ v ∷ []) w) ≡ true
    by true h rest = refl
    by false h rest = rest h

pushed_self : (vs : List Want) (w : Want) → is_wanted (vs ++ w ∷ []) w ≡ true
pushed_self [] w = ap (λ (b : Bool). if b then true else false) (bound_self w)
pushed_self (x ∷ vs) w = by (same_flag x.gate w.gate && same_name x.name w.name) (pushed_self vs w)
  where
    by : (b : Bool) → is_wanted (vs ++ w ∷ []) w ≡ true → (if b then true else is_wanted (vs ++ w ∷ []) w) ≡ true
    by true h = refl
    by false h = h

with_sub : (ws : List Want) (w : Want) → Sub ws (with_want ws w)
with_sub ws w = by (is_wanted ws w)
  where
    by : (b : Bool) → Sub ws (if b then ws else ws ++ w ∷ [])
    by true = same_sub ws
    by false = record { stays = λ v h. pushed ws w v h }

with_there : (ws : List Want) (w : Want) → is_wanted (with_want ws w) w ≡ true
with_there ws w = by (is_wanted ws w) refl
  where
    by : (b : Bool) → is_wanted ws w ≡ b → is_wanted (if b then ws else ws ++ w ∷ []) w ≡ true
    by true is = is
    by false is = pushed_self ws w

-- ---- what is covered: by a procedure of the segment, or by a want

abbrev pub covered : List (List ℕ) → List Want → Testing
covered here ws w = (not w.gate && stands_in here w.name) || is_wanted ws (record { gate = w.gate; name = w.name })

by_want : (here : List (List ℕ)) (ws : List Want) (w : Wanted) → is_wanted ws (record { gate = w.gate; name = w.name }) ≡ true → covered here ws w ≡ true
by_want here ws w h = by (not w.gate && stands_in here w.name) h
  where
    by : (b : Bool) → is_wanted ws (record { gate = w.gate; name = w.name }) ≡ true → (b || is_wanted ws (record { gate = w.gate; name = w.name })) ≡ true
    by true h = refl
    by false h = h

-- A walk leads from some wants to others, and what it passes is covered by these and by all that follow.
record Walked (here : List (List ℕ)) (pass : Testing → Bool) (ws vs : List Want) : Type 0 where
  grows : Sub ws vs
  passes : (us : List Want) → Sub vs us → pass (covered here us) ≡ true

walked_both : {here : List (List ℕ)} {us vs ws : List Want} (p q : Testing → Bool) → Walked here p us vs → Walked here q vs ws → Walked here (λ t. p t && q t) us ws
walked_both {here} p q a b = record {
  grows = then_sub a.grows b.grows;
  passes = λ xs sub. and_from (p (covered here xs)) (q (covered here xs)) (a.passes xs (then_sub b.grows sub)) (b.passes xs sub);
}

walked_none : {here : List (List ℕ)} (p : Testing → Bool) (ws : List Want) → ((t : Testing) → p t ≡ true) → Walked here p ws ws
walked_none {here} p ws h = record { grows = same_sub ws; passes = λ us sub. h (covered here us) }

-- ---- calls

walked_want : (here : List (List ℕ)) (ws : List Want) (x : List ℕ) (gate : Bool)
    → Walked here (λ t. t (record { name = x; gate = gate })) ws (with_want ws (record { gate = gate; name = x }))
walked_want here ws x gate = record {
  grows = with_sub ws (record { gate = gate; name = x });
  passes = λ us sub. by_want here us (record { name = x; gate = gate })
      (sub.stays (record { gate = gate; name = x }) (with_there ws (record { gate = gate; name = x })));
}

walked_named : (here : List (List ℕ)) (ws : List Want) (x : List ℕ) (b : Bool) → stands_in here x ≡ b
    → Walked here (λ t. t (record { name = x; gate = false })) ws (if b then ws else with_want ws (record { gate = false; name = x }))
walked_named here ws x true is = record {
  grows = same_sub ws;
  passes = λ us sub. ap (λ (b : Bool). b || is_wanted us (record { gate = false; name = x })) is;
}
walked_named here ws x false is = walked_want here ws x false

walked_call : (here : List (List ℕ)) (ws : List Want) (s : Option Sort) (x : List ℕ) → Walked here (λ t. call_passes t s x) ws (with_call here ws s x)
walked_call here ws (Some (n.intrinsic i)) x = walked_want here ws x true
walked_call here ws (Some (n.procedure p)) x = walked_named here ws x (stands_in here x) refl
walked_call here ws None x = walked_none _ ws (λ t. refl)
walked_call here ws (Some (n.equate v)) x = walked_none _ ws (λ t. refl)
walked_call here ws (Some (n.subroutine p)) x = walked_none _ ws (λ t. refl)
walked_call here ws (Some (n.simple k own)) x = walked_none _ ws (λ t. refl)
walked_call here ws (Some (n.array k own low high)) x = walked_none _ ws (λ t. refl)
walked_call here ws (Some (n.view k own base)) x = walked_none _ ws (λ t. refl)
walked_call here ws (Some (n.pointer k own)) x = walked_none _ ws (λ t. refl)
walked_call here ws (Some (n.value k)) x = walked_none _ ws (λ t. refl)
walked_call here ws (Some (n.by_reference k)) x = walked_none _ ws (λ t. refl)
walked_call here ws (Some (n.array_parameter k)) x = walked_none _ ws (λ t. refl)
walked_call here ws (Some n.label) x = walked_none _ ws (λ t. refl)
walked_call here ws (Some n.unknown) x = walked_none _ ws (λ t. refl)

walked_calls : (here : List (List ℕ)) (names : Names) (ws : List Want) (xs : List (List ℕ)) → Walked here (λ t. calls_pass t names xs) ws (with_calls here names ws xs)
walked_calls here names ws [] = walked_none _ ws (λ t. refl)
walked_calls here names ws (x ∷ xs) =
    walked_both (λ t. call_passes t (names x) x) (λ t. calls_pass t names xs) (walked_call here ws (names x) x) (walked_calls here names (with_call here ws (names x) x) xs)

-- ---- bodies

walked_inners : (here : List (List ℕ)) (around : Names) (ws : List Want) (ss : List Subroutine) → Walked here (λ t. inners_pass t around ss) ws (with_subroutines here around ws ss)
walked_inners here around ws [] = walked_none _ ws (λ t. refl)
walked_inners here around ws (s ∷ ss) =
    walked_both (λ t. inner_passes t around s) (λ t. inners_pass t around ss) (walked_calls here (subroutine_names around s) ws (statement_names s.statement))
    (walked_inners here around (with_calls here (subroutine_names around s) ws (statement_names s.statement)) ss)

walked_routines : (here : List (List ℕ)) (ws : List Want) (rs : List Routine) → Walked here (λ t. list_all (routine_passes t) rs) ws (with_routines here ws rs)
walked_routines here ws [] = walked_none _ ws (λ t. refl)
walked_routines here ws (r ∷ rs) =
    let inners = with_subroutines here (routine_names r) ws (routine_subroutines r) in
    let calls = with_calls here (routine_names r) inners (statements_names (statements r.statements)) in
    walked_both (λ t. routine_passes t r) (λ t. list_all (routine_passes t) rs)
    (walked_both (λ t. inners_pass t (routine_names r) (routine_subroutines r)) (λ t. calls_pass t (routine_names r) (statements_names (statements r.statements)))
    (walked_inners here (routine_names r) ws (routine_subroutines r)) (walked_calls here (routine_names r) inners (statements_names (statements r.statements))))
    (walked_routines here calls rs)

walked_main : (here : List (List ℕ)) (ws : List Want) (u : Source) → Walked here (λ t. main_passes t u) ws (with_main here ws u)
walked_main here ws u =
    let names = find (unit_table u) in
    let inners = with_subroutines here names ws (unit_subroutines u) in
    let xs = statements_names (statements u.tree.statements) in
    walked_both (λ t. inners_pass t names (unit_subroutines u)) (λ t. calls_pass t names xs && t (record { name = codes "TERMINATE"; gate = true }))
    (walked_inners here names ws (unit_subroutines u))
    (walked_both (λ t. calls_pass t names xs) (λ t. t (record { name = codes "TERMINATE"; gate = true })) (walked_calls here names inners xs)
    (walked_want here (with_calls here names inners xs) (codes "TERMINATE") true))

-- ---- units

-- all bodies of a unit in the segment of a name
abbrev pub named_passes : Testing → List ℕ → Source → Bool
named_passes t x u = list_all (routine_passes t) (routines_in u x) && (if has_main u x then main_passes t u else true)

walked_unit : (x : List ℕ) (here : List (List ℕ)) (ws : List Want) (u : Source) → Walked here (λ t. named_passes t x u) ws (with_unit x here ws u)
walked_unit x here ws u = by (has_main u x)
  where
    by : (b : Bool) → Walked here (λ t. list_all (routine_passes t) (routines_in u x) && (if b then main_passes t u else true)) ws
        (if b then with_main here (with_routines here ws (routines_in u x)) u else with_routines here ws (routines_in u x))
    by true =
        walked_both (λ t. list_all (routine_passes t) (routines_in u x)) (λ t. main_passes t u) (walked_routines here ws (routines_in u x))
        (walked_main here (with_routines here ws (routines_in u x)) u)
    by false =
        walked_both (λ t. list_all (routine_passes t) (routines_in u x)) (λ t. true) (walked_routines here ws (routines_in u x))
        (walked_none _ (with_routines here ws (routines_in u x)) (λ t. refl))

walked_units : (x : List ℕ) (here : List (List ℕ)) (ws : List Want) (us : List Source) → Walked here (λ t. list_all (named_passes t x) us) ws (wants_from x here ws us)
walked_units x here ws [] = walked_none _ ws (λ t. refl)
walked_units x here ws (u ∷ us) =
    walked_both (λ t. named_passes t x u) (λ t. list_all (named_passes t x) us) (walked_unit x here ws u) (walked_units x here (with_unit x here ws u) us)

-- what units call in a segment is covered by the wants that are counted there
pub all_covered : (x : List ℕ) (here : List (List ℕ)) (us : List Source) → list_all (named_passes (covered here (wants_from x here [] us)) x) us ≡ true
all_covered x here us = (walked_units x here [] us).passes (wants_from x here [] us) (same_sub (wants_from x here [] us))
