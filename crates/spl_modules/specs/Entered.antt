-- The modules of a unit while its declarations are walked: the entries so far of each segment, and the indexes of procedures there.
use Rattle.std.specs.Prelude.{ℕ, zero, suc, ◌+◌, Bool, true, if◌then◌else◌, nat_eq, List, [], ◌∷◌, ◌++◌, map, length, Option}
use Rattle.spl_tree.specs.DeclarationTrees as decl
use Rattle.spl_tree.specs.DeclarationTrees.{Declaration, Declarations}
use Rattle.spl_sound.specs.spl_meaning.Names.{Table, find}
use Rattle.spl_places.specs.spl_found.OwnNames.{with_name}
use Rattle.spl_places.specs.spl_spots.declared.name_maps.NameMap.{NameMap}
use Rattle.spl_places.specs.NameMaps.{entries_of}
use Rattle.spl_scopes.specs.Entries.{Entry, main, is_callable, inner_entry, inner_entries}
use Rattle.spl_modules.specs.declared.modules.ModuleEntries.{ModuleEntries}
use Rattle.spl_modules.specs.Made.{Made, made_of}

-- indexes by name
abbrev pub Indexes : Type 0
Indexes = List ℕ → Option ℕ

-- the entries of each segment, and the indexes of its procedures
pub record Entered : Type 0 where
  pub made : ℕ → List Made
  pub procedures : ℕ → Indexes

-- ---- modules by the numbers of their segments

abbrev pub made_at : List ModuleEntries → ℕ → List Made
made_at [] g = []
made_at (m ∷ ms) zero = map made_of m.entries.items
made_at (m ∷ ms) (suc g) = made_at ms g

abbrev pub procedures_at : List ModuleEntries → ℕ → Indexes
procedures_at [] g = find []
procedures_at (m ∷ ms) zero = find (entries_of m.procedures)
procedures_at (m ∷ ms) (suc g) = procedures_at ms g

abbrev pub entered_of : List ModuleEntries → Entered
entered_of ms = record { made = made_at ms; procedures = procedures_at ms }

-- ---- entries more

-- a segment's entries with one more
abbrev pub and_made : List Made → List ℕ → Bool → List Made
and_made es x callable = es ++ record { name = x; mark = length es; callable = callable } ∷ []

-- a segment's procedures with one more, where the entry is of one
abbrev pub and_procedure : Indexes → List ℕ → Bool → ℕ → Indexes
and_procedure has x callable k = if callable then with_name has x k else has

-- an entry more, in its segment
abbrev pub with_entry : Entered → List ℕ → ℕ → Bool → Entered
with_entry t x g callable = record {
  made = λ h. if nat_eq g h then and_made (t.made h) x callable else t.made h;
  procedures = λ h. if nat_eq g h then and_procedure (t.procedures h) x callable (length (t.made h)) else t.procedures h;
}

-- entries in order
abbrev pub behind_entries : Entered → List Entry → Entered
behind_entries t [] = t
behind_entries t (e ∷ es) = behind_entries (with_entry t e.name e.segment (is_callable e.callee)) es

-- ---- the indexes of subroutines, the first of which would have the index k

abbrev pub inner_index : ℕ → Declaration → Table ℕ
inner_index k (decl.Declaration.subroutine h s) = (h.name, k) ∷ []
inner_index k d = []

abbrev pub inner_indexes : ℕ → Declarations → Table ℕ
inner_indexes k decl.none = []
inner_indexes k (decl.and d ds) = inner_index k d ++ inner_indexes (k + length (inner_index k d)) ds

-- what names had, and the subroutine that a declaration is, with the index k
abbrev pub and_inner : Indexes → ℕ → Declaration → Indexes
and_inner has k (decl.Declaration.subroutine h s) = with_name has h.name k
and_inner has k d = has

-- ---- declarations

-- what is known behind some declarations: the modules, the subroutines of the main body, and those of each procedure
pub record Walk : Type 0 where
  pub entered : Entered
  pub main_body : Indexes
  pub routines : List Indexes

-- the indexes of several bodies' subroutines
abbrev pub maps_of : List (NameMap ℕ) → List Indexes
maps_of ms = map (λ m. find (entries_of m)) ms

-- behind a declaration more of a unit, the main body of which stands in a segment
abbrev pub with_declared : ℕ → Walk → Declaration → Walk
with_declared g w (decl.Declaration.procedure h items ss) =
    let here = with_entry w.entered h.name h.segment true in
    record {
      entered = behind_entries here (inner_entries h.segment main items);
      main_body = w.main_body;
      routines = w.routines ++ find (inner_indexes (length (here.made h.segment)) items) ∷ [];
    }
with_declared g w d = record {
  entered = behind_entries w.entered (inner_entry g main d);
  main_body = and_inner w.main_body (length (w.entered.made g)) d;
  routines = w.routines;
}

-- and behind declarations in order
abbrev pub with_all : ℕ → Walk → Declarations → Walk
with_all g w decl.none = w
with_all g w (decl.and d ds) = with_all g (with_declared g w d) ds

-- before the first
abbrev pub nothing_entered : Walk
nothing_entered = record { entered = record { made = λ g. []; procedures = λ g. find [] }; main_body = find []; routines = [] }
