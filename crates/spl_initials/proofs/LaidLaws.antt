-- The cells and initial values of a list are those of its items.
use Rattle.std.proofs.Common.{ℕ, ◌≡◌, Bool, true, false, List, [], ◌∷◌, ◌++◌, map, refl, ap, ◌∙◌}
use Rattle.std.specs.Prelude.{if◌then◌else◌}
use Rattle.spl_tree.specs.declared.expressions.Kind.{Kind}
use Rattle.spl_tree.specs.DeclarationTrees as decl
use Rattle.spl_tree.specs.DeclarationTrees.{Item, Declaration, Declarations}
use Rattle.spl_sorts.specs.spl_meaning.Names as n
use Rattle.spl_sorts.specs.spl_meaning.Names.{Names, Sort, Table, find, within, same_flag, constant_or_zero}
use Rattle.spl_sorts.specs.spl_meaning.Tables.{declared, shaped, with_declaration}
use Rattle.spl_sorts.specs.spl_meaning.Places.{Place, Array, Cell, Initial, Starts, is_own, only, cell_of, cells_among, start_of, initial_at, item_initials, declaration_initials, initials_among, places_from, arrays_from, laid}
use Rattle.spl_places.proofs.spl_found_proofs.OwnNames.{find_declared, find_declaration}
use Rattle.spl_places.specs.ListedData.{Datum}
use Rattle.spl_places.specs.Held.{is_data, held, named}
use Rattle.spl_places.proofs.ProgramLaws.{places_held, arrays_held}
use Rattle.spl_initials.specs.Cells.{Found, cell_by, item_cell, cells_by, initials_of_items, initials_of_declaration, initials_by}
use Rattle.spl_initials.specs.Lists.{found_of}

-- what tables of places and of arrays have
abbrev pub found_at : Table Place → Table Array → Found
found_at ps as' = record { place = find ps; array = find as' }

-- ---- cells

no_cell : (ps : Table Place) (as' : Table Array) (x : List ℕ) (s : Sort) → is_data s ≡ false → cell_of ps as' x s ≡ []
no_cell ps as' x (n.simple k own) is = cc
no_cell ps as' x (n.array k own low high) is = cc
no_cell ps as' x (n.view k own base) is = cc
no_cell ps as' x (n.pointer k own) is = cc
no_cell ps as' x (n.value k) is = refl
no_cell ps as' x (n.by_reference k) is = refl
no_cell ps as' x (n.array_parameter k) is = refl
no_cell ps as' x (n.equate v) is = refl
no_cell ps as' x n.label is = refl
no_cell ps as' x (n.intrinsic i) is = refl
no_cell ps as' x (n.procedure p) is = refl
no_cell ps as' x (n.subroutine p) is = refl
no_cell ps as' x n.unknown is = refl

same_cell : (ps : Table Place) (as' : Table Array) (x : List ℕ) (s : Sort) → cell_of ps as' x s ≡ cell_by (found_at ps as') x s
same_cell ps as' x (n.simple k own) = refl
same_cell ps as' x (n.array k own low high) = refl
same_cell ps as' x (n.view k own base) = refl
same_cell ps as' x (n.pointer k own) = refl
same_cell ps as' x (n.value k) = refl
same_cell ps as' x (n.by_reference k) = refl
same_cell ps as' x (n.array_parameter k) = refl
same_cell ps as' x (n.equate v) = refl
same_cell ps as' x n.label = refl
same_cell ps as' x (n.intrinsic i) = refl
same_cell ps as' x (n.procedure p) = refl
same_cell ps as' x (n.subroutine p) = refl
same_cell ps as' x n.unknown = refl

none_either : (b : Bool) (cs : List Cell) → cs ≡ [] → (if b then cs else []) ≡ []
none_either true cs none = none
none_either false cs none = refl

cells_held : (own : Bool) (ps : Table Place) (as' : Table Array) (t : Table Sort) → cells_among own ps as' t ≡ cells_among own ps as' (held t)
cells_held own ps as' [] = refl
cells_held own ps as' (e ∷ t) = by (is_data e.1) refl (cells_held own ps as' t)
  where
    by : (b : Bool) → is_data e.1 ≡ b → cells_among own ps as' t ≡ cells_among own ps as' (held t)
        → (if same_flag own (is_own e.1) then cell_of ps as' e.0 e.1 else []) ++ cells_among own ps as' t ≡ cells_among own ps as' (only b e ++ held t)
    by true is rest = ap (λ (cs : List Cell). (if same_flag own (is_own e.1) then cell_of ps as' e.0 e.1 else []) ++ cs) rest
    by false is rest =
        ap (λ (cs : List Cell). cs ++ cells_among own ps as' t) (none_either (same_flag own (is_own e.1)) (cell_of ps as' e.0 e.1) (no_cell ps as' e.0 e.1 is)) ∙ rest

cells_named : (own : Bool) (ps : Table Place) (as' : Table Array) (ds : List Datum) → cells_among own ps as' (map named ds) ≡ cells_by own (found_at ps as') ds
cells_named own ps as' [] = refl
cells_named own ps as' (d ∷ ds) =
    ap (λ (cs : List Cell). (if same_flag own (is_own d.sort) then cs else []) ++ cells_among own ps as' (map named ds)) (same_cell ps as' d.name d.sort)
    ∙ ap (λ (cs : List Cell). item_cell own (found_at ps as') d ++ cs) (cells_named own ps as' ds)

-- ---- initial values

items_same : (own : Bool) (outer : Names) (k : Kind) (ps : Table Place) (as' : Table Array) (t : Table Sort) (is : List Item)
    → item_initials outer own k ps as' t is ≡ initials_of_items outer own k (found_at ps as') (find t) is
items_same own outer k ps as' t [] = refl
items_same own outer k ps as' t (i ∷ is) =
    let s = shaped (within t outer) own k i.shape in
    let first = initial_at (start_of (find ps i.name) (find as' i.name)) k (map (constant_or_zero (within t outer)) i.first) in
    ap (λ (xs : List Initial). first ++ xs) (items_same own outer k ps as' (declared t i.name s) is)
    ∙ ap (λ (here : Names). first ++ initials_of_items outer own k (found_at ps as') here is) (find_declared t i.name s)

declaration_same : (own : Bool) (outer : Names) (ps : Table Place) (as' : Table Array) (t : Table Sort) (d : Declaration)
    → declaration_initials own outer ps as' t d ≡ initials_of_declaration own outer (found_at ps as') (find t) d
declaration_same own outer ps as' t (decl.Declaration.data_items kept k items) =
    ap (λ (xs : List Initial). if same_flag own kept then xs else []) (items_same kept outer k ps as' t items)
declaration_same own outer ps as' t (decl.Declaration.equate es) = refl
declaration_same own outer ps as' t (decl.Declaration.intrinsic xs) = refl
declaration_same own outer ps as' t (decl.Declaration.label xs) = refl
declaration_same own outer ps as' t (decl.Declaration.forward h) = refl
declaration_same own outer ps as' t (decl.Declaration.external h) = refl
declaration_same own outer ps as' t (decl.Declaration.procedure h items ss) = refl
declaration_same own outer ps as' t (decl.Declaration.subroutine h s) = refl

initials_same : (own : Bool) (outer : Names) (ps : Table Place) (as' : Table Array) (t : Table Sort) (ds : Declarations)
    → initials_among own outer ps as' t ds ≡ initials_by own outer (found_at ps as') (find t) ds
initials_same own outer ps as' t decl.none = refl
initials_same own outer ps as' t (decl.and d ds) =
    let here = with_declaration outer t d in
    ap (λ (xs : List Initial). xs ++ initials_among own outer ps as' here ds) (declaration_same own outer ps as' t d)
    ∙ ap (λ (xs : List Initial). initials_of_declaration own outer (found_at ps as') (find t) d ++ xs) (initials_same own outer ps as' here ds)
    ∙ ap (λ (h : Names). initials_of_declaration own outer (found_at ps as') (find t) d ++ initials_by own outer (found_at ps as') h ds) (find_declaration outer t d)

-- ---- a list with its places

-- what names have in a list is what they have among its items
found_same : (at : ℕ → Place) (starts : Starts) (t : Table Sort) (ds : List Datum) → held t ≡ map named ds
    → found_at (places_from at starts.own starts.here t) (arrays_from at starts.own_arrays starts.here_arrays t) ≡ found_of at starts ds
found_same at starts t ds is =
    ap (λ (ps : Table Place). found_at ps (arrays_from at starts.own_arrays starts.here_arrays t)) (places_held at starts.own starts.here t ∙ ap (places_from at starts.own starts.here) is)
    ∙ ap (λ (as' : Table Array). found_at (places_from at starts.own starts.here (map named ds)) as')
    (arrays_held at starts.own_arrays starts.here_arrays t ∙ ap (arrays_from at starts.own_arrays starts.here_arrays) is)

pub laid_cells : (own : Bool) (outer : Names) (before : Table Sort) (at : ℕ → Place) (starts : Starts) (t : Table Sort) (ds : Declarations) (items : List Datum) → held t ≡ map named items
    → (laid own outer before at starts t ds).cells ≡ cells_by own (found_of at starts items) items
laid_cells own outer before at starts t ds items is =
    let ps = places_from at starts.own starts.here t in
    let as' = arrays_from at starts.own_arrays starts.here_arrays t in
    cells_held own ps as' t ∙ ap (cells_among own ps as') is ∙ cells_named own ps as' items
    ∙ ap (λ (f : Found). cells_by own f items) (found_same at starts t items is)

pub laid_initials : (own : Bool) (outer : Names) (before : Table Sort) (at : ℕ → Place) (starts : Starts) (t : Table Sort) (ds : Declarations) (items : List Datum) → held t ≡ map named items
    → (laid own outer before at starts t ds).initials ≡ initials_by own outer (found_of at starts items) (find before) ds
laid_initials own outer before at starts t ds items is =
    let ps = places_from at starts.own starts.here t in
    let as' = arrays_from at starts.own_arrays starts.here_arrays t in
    initials_same own outer ps as' before ds
    ∙ ap (λ (f : Found). initials_by own outer f (find before) ds) (found_same at starts t items is)
