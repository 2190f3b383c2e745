-- The names of a split procedure's list stand in its frame.
use Rattle.std.proofs.Common.{ℕ, ◌≡◌, ◌⊎◌, inl, inr, ◌||◌, Bool, true, false, List, ◌++◌, Option, Some, None, is_some, refl, sym, ap, ◌∙◌}
use Rattle.spl_sound_names.specs.spl_meaning.Names.{Sort, Table, find, or_else, parameters, formals_of}
use Rattle.spl_sound_names.specs.spl_meaning.Tables.{routine_table}
use Rattle.spl_sound_names.specs.spl_meaning.Places.{Place, below_base, above_base, list_words, item_words, places_from, place_of}
use Rattle.spl_sound_names.specs.spl_meaning.Bodies.{marker_gap, parameter_places}
use Rattle.spl_sound_names.specs.spl_meaning.DeclarationRules.{Around, procedure_scope}
use Rattle.spl_fits.proofs.spl_places_proofs.ApartLaws.{within}
use Rattle.spl_sound_names.specs.Known.{is_item, is_passed, AreKnown}
use Rattle.spl_sound_names.proofs.Levels.{known_parameters, list_found}
use Rattle.spl_sound_names.proofs.Tables.{never}
use Rattle.spl_sound_names.proofs.Units.{kinds_none}
use Rattle.spl_sound_names.proofs.Walks.{known_locals}
use Rattle.spl_near_places.specs.Near.{is_framed}
use Rattle.spl_near_places.specs.Laws.{SplitNamesAreFramed}
use Rattle.spl_near_places.proofs.Frames.{found_in, parameter_below}
use Rattle.spl_near_places.proofs.Lists.{locals_each, parameters_each, own_none, Spotted, spot_of_place}
use Rattle.spl_near_places.proofs.Units.{no_room}

-- an item of a list without OWN items stands above the base
item_framed : (own : ℕ) (t : Table Sort) → list_words true t ≡ 0 → (x : List ℕ) (p : Place) → Spotted above_base own 1 t x p → is_framed p ≡ true
item_framed own t none x p k = by k.item.own refl
  where
    by : (b : Bool) → k.item.own ≡ b → is_framed p ≡ true
    by true is =
        let r = (within own 1 t x k.item k.found).own is in no_room k.item.word (item_words k.item.sort) own (list_words true t) k.words r.0 r.1 none
    by false is = ap is_framed (k.is ∙ ap (λ (b : Bool). place_of above_base b k.item.word k.item.word) is)

-- what has a place in the first of two tables stands there
first_there : (o u : Option Place) (p : Place) → is_some o ≡ true → or_else o u ≡ Some p → o ≡ Some p
first_there (Some q) u p some is = is
first_there None u p some is = never some

pub split_framed : SplitNamesAreFramed
split_framed globals own own_arrays r split around heading locals x s p there sort is =
    by (found_in params items x p (first_there (find (params ++ items) x) (find globals x) p (has s there sort) is))
  where
    params : Table Place
    params = parameter_places below_base marker_gap (formals_of r.heading)

    items : Table Place
    items = places_from above_base own 1 (routine_table r)

    a : Around
    a = record { names = find r.globals; in_procedure = true; split = r.heading.split; subprogram = false }

    known : AreKnown (λ y. is_some (find params y)) (λ y. true) (find (routine_table r))
    known =
        known_locals (λ y. is_some (find params y)) (λ y. true) a (procedure_scope r.globals r.heading r.items) (parameters (formals_of r.heading)) r.items around
        (known_parameters r.heading below_base marker_gap (λ y. true) (kinds_none r.heading.split r.heading heading)) (λ y h. refl) locals

    has : (u : Sort) → find (routine_table r) x ≡ Some u → (is_item u || is_passed u) ≡ true → is_some (find (params ++ items) x) ≡ true
    has u here either_sort =
        let found = list_found params above_base own 1 (routine_table r) (λ y. Some 0) known in
        choose (is_item u) refl (found.items x u here) (found.passed x u here) either_sort
      where
        choose : (b : Bool) → is_item u ≡ b → (is_item u ≡ true → is_some (find (params ++ items) x) ≡ true)
            → (is_passed u ≡ true → is_some (find (params ++ items) x) ≡ true) → (is_item u || is_passed u) ≡ true → is_some (find (params ++ items) x) ≡ true
        choose true same one other h = one same
        choose false same one other h = other (ap (λ (c : Bool). c || is_passed u) (sym same) ∙ h)

    none : list_words true (routine_table r) ≡ 0
    none =
        own_none (routine_table r)
        (locals_each a split (procedure_scope r.globals r.heading r.items) (parameters (formals_of r.heading)) r.items locals (parameters_each (formals_of r.heading)))

    by : (find params x ≡ Some p) ⊎ (find items x ≡ Some p) → is_framed p ≡ true
    by (inl here) = ap is_framed (parameter_below below_base marker_gap (formals_of r.heading) x p here).is
    by (inr here) = item_framed own (routine_table r) none x p (spot_of_place above_base own 1 (routine_table r) x p here)
