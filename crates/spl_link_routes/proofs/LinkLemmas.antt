-- The link of a name, by what it is.
use Rattle.std.proofs.Common.{◌≡◌, ℕ, Bool, false, true, List, [], ◌∷◌, ◌++◌, length, Option, Some, None, is_some, refl, sym, ap, subst, ◌∙◌, append-nil}
use Rattle.std.specs.Prelude.{slice_get, position, unwrap_or, if◌then◌else◌}
use Rattle.spl_routes.specs.hp_program.declared.program.Program.{Program}
use Rattle.spl_routes.specs.hp_steady.Laws.{WordsAreNear}
use Rattle.spl_routes.specs.spl_meaning.Names.{Profile}
use Rattle.spl_routes.specs.spl_meaning.Tables.{Source}
use Rattle.spl_links.specs.spl_branch.declared.modules.Module.{Module}
use Rattle.spl_links.specs.spl_code.Parts.{Wanted, is_wanted, wanted_place, with_wanted}
use Rattle.spl_routes.specs.spl_scopes.Entries.{module_entries, procedure_index}
use Rattle.spl_routes.specs.spl_scopes.Scopes.{Placed, first_reached, placed_units}
use Rattle.spl_routes.specs.spl_follow.Calling.{Link}
use Rattle.spl_routes.specs.spl_follow.Doing.{Way}
use Rattle.spl_routes.specs.spl_follow.Standing.{Sites}
use Rattle.spl_routes.proofs.spl_endings_proofs.WantLemmas.{wanted_there}
use Rattle.spl_links.specs.Links.{linked_by, procedure_link}
use Rattle.spl_routes.specs.spl_routines.Among.{IsIn}
use Rattle.spl_routes.specs.spl_routines.Located.{MadeOf, Located, sites_at, wants_at}
use Rattle.spl_routes.specs.Found.{Finds}
use Rattle.spl_routes.proofs.spl_routines_proofs.ListLemmas.{one_there}
use Rattle.spl_routes.proofs.FindLemmas.{own_finds}
use Rattle.spl_routes.proofs.WantLemmas.{want_finds}
use Rattle.spl_link_routes.specs.Laws.{LinksFind}

-- a name that is wanted is at its place
wanted_at : (ws : List Wanted) (x : List ℕ) (index : ℕ) → position (is_wanted x false) ws ≡ Some index
    → slice_get ws index ≡ Some (record { name = x; gate = false })
wanted_at ws x index is =
    let same : with_wanted x false ws ≡ ws =
    ap (λ (o : Option ℕ). if is_some o then ws else ws ++ record { name = x; gate = false } ∷ []) is in
    let place : wanted_place x false ws ≡ index = ap (λ (o : Option ℕ). unwrap_or o (length ws)) is in
    ap (λ (k : ℕ). slice_get ws k) (sym place)
    ∙ wanted_there x false ws ws (record { rest = []; is = sym same ∙ sym (append-nil (with_wanted x false ws)) })

-- a link is by an entry of the module, or by a name that it wants
data LinkIs (own place : Option ℕ) (lk : Link) : Type 0 where
  by_entry : (entry : ℕ) → own ≡ Some entry → lk.wanted ≡ false → lk.index ≡ entry → LinkIs own place lk
  by_want : (index : ℕ) → place ≡ Some index → lk.wanted ≡ true → lk.index ≡ index → LinkIs own place lk

link_is : (own place : Option ℕ) (pr : Profile) (lk : Link) → procedure_link own place pr ≡ Some lk → LinkIs own place lk
link_is (Some entry) place pr lk is =
    let same = one_there (linked_by false entry pr) lk is in
    by_entry entry refl (ap (λ (l : Link). l.wanted) (sym same)) (ap (λ (l : Link). l.index) (sym same))
link_is None (Some index) pr lk is =
    let same = one_there (linked_by true index pr) lk is in
    by_want index refl (ap (λ (l : Link). l.wanted) (sym same)) (ap (λ (l : Link). l.index) (sym same))
link_is None None pr lk is = cc

-- the same way finds the same
finds_along : (us : List Source) (p : Program) (near : WordsAreNear p) (ms : List Module) (x : List ℕ) (way other : Way) → way ≡ other
    → Finds us p near ms way x → Finds us p near ms other x
finds_along us p near ms x way other same f = subst (λ (w : Way). Finds us p near ms w x) same f

-- two of a module's ways are the same
ways_same : (s : Sites) (wanted other : Bool) (index k : ℕ) → wanted ≡ other → index ≡ k → s.ways other k ≡ s.ways wanted index
ways_same s wanted other index k w i = sym (ap (λ (b : Bool). s.ways b index) w ∙ ap (λ (n : ℕ). s.ways other n) i)

link_finds : (us : List Source) (p : Program) (near : WordsAreNear p) (ms : List Module) → MadeOf us p ms → (q : Placed)
    → IsIn q (placed_units (first_reached us) us) → (g : ℕ) (at : Located ms q g) (x : List ℕ) (lk : Link)
    → LinkIs (procedure_index (module_entries q.unit g) x) (position (is_wanted x false) (wants_at at)) lk
    → Finds us p near ms ((sites_at at).ways lk.wanted lk.index) x
link_finds us p near ms f q among g at x lk (by_entry entry own w i) =
    finds_along us p near ms x ((sites_at at).ways false entry) ((sites_at at).ways lk.wanted lk.index)
    (ways_same (sites_at at) lk.wanted false lk.index entry w i) (own_finds us p near ms f q among g at x entry own)
link_finds us p near ms f q among g at x lk (by_want index there w i) =
    finds_along us p near ms x ((sites_at at).ways true index) ((sites_at at).ways lk.wanted lk.index)
    (ways_same (sites_at at) lk.wanted true lk.index index w i) (want_finds us p near ms f q g at x index (wanted_at (wants_at at) x index there))

pub links_find : LinksFind
links_find us p near ms f q among g at c same x pr lk is =
    link_finds us p near ms f q among g at x lk
    (link_is (procedure_index (module_entries q.unit g) x) (position (is_wanted x false) (wants_at at)) pr lk
    (ap (λ (h : List ℕ → Option ℕ). procedure_link (h x) (position (is_wanted x false) (wants_at at)) pr) (sym same) ∙ is))
