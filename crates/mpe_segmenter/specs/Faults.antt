-- What is wrong with modules first, in order: the main body, names defined twice, names that nothing defines, counts.
use Rattle.std.specs.Prelude.{ℕ, ◌≡◌, ◌+◌, ◌≤◌, ◌==◌, nat_lt, length, if◌then◌else◌, List, [], ◌∷◌, ◌||◌, ◌++◌, option_map, Option, Some, None, is_some}
use Rattle.mpe_segmenter.specs.declared.defined.Collected.{Collected}
use Rattle.mpe_segmenter.specs.declared.defined.Collected.TheVariants as c
use Rattle.mpe_segmenter.specs.declared.faults.PrepFault.{PrepFault}
use Rattle.mpe_segmenter.specs.declared.faults.PrepFault.TheVariants as f
use Rattle.spl_branch.specs.declared.modules.Define.{Define}
use Rattle.spl_branch.specs.declared.modules.Want.{Want}
use Rattle.spl_branch.specs.declared.modules.Module.{Module}
use Rattle.spl_tree.specs.declared.names_and_places.Name.{Name}
use Rattle.mpe_segmenter.specs.Names.{is_among, segment_names, Part, parts}
use Rattle.mpe_segmenter.specs.Entries.{either}
use Rattle.mpe_segmenter.specs.Counts.{entries_full, segment_full}

-- how many main bodies modules have
abbrev pub mains : List Module → ℕ
mains [] = 0
mains (m ∷ ms) = (if is_some m.main then 1 else 0) + mains ms

-- what is answered of so many main bodies
abbrev pub MainBodies : ℕ → Option PrepFault → Type 0
MainBodies n None = n ≡ 1
MainBodies n (Some f.NoMain) = n ≡ 0
MainBodies n (Some f.TwoMains) = 2 ≤ n
MainBodies n (Some other) = ⊥

-- the names of procedures that other modules may call, in order of text
abbrev pub define_names : List Define → List (List ℕ)
define_names [] = []
define_names (d ∷ ds) = if d.callable then d.name.text.items ∷ define_names ds else define_names ds

abbrev pub callables : List Module → List (List ℕ)
callables [] = []
callables (m ∷ ms) = define_names m.defines.items ++ callables ms

-- the first name that stands among those before it
abbrev pub first_repeat : List (List ℕ) → List (List ℕ) → Option (List ℕ)
first_repeat seen [] = None
first_repeat seen (n ∷ ns) = if is_among n seen then Some n else first_repeat (seen ++ n ∷ []) ns

-- the name that is defined twice, whose second definition comes first
abbrev pub doubled : List Module → Option (List ℕ)
doubled ms = first_repeat [] (callables ms)

-- the first want that is no intrinsic's and that no procedure of these names meets
abbrev pub first_unmet : List (List ℕ) → List Want → Option (List ℕ)
first_unmet names [] = None
first_unmet names (w ∷ ws) = if w.gate || is_among w.name.text.items names then first_unmet names ws else Some w.name.text.items

-- the first of two names
abbrev pub or_name : Option (List ℕ) → Option (List ℕ) → Option (List ℕ)
or_name None other = other
or_name (Some n) other = Some n

abbrev pub unmet_from : List (List ℕ) → List Module → Option (List ℕ)
unmet_from names [] = None
unmet_from names (m ∷ ms) = or_name (first_unmet names m.wants.items) (unmet_from names ms)

-- the name that is wanted and not defined, whose first call comes first
abbrev pub unresolved : List Module → Option (List ℕ)
unresolved ms = unmet_from (callables ms) ms

-- the letters of a name, where there is one
abbrev pub letters_if : Option Name → Option (List ℕ)
letters_if o = option_map (λ n. n.text.items) o

-- what is answered of some names behind others: the first that stands among those before it, or all of them
abbrev pub Repeats : List (List ℕ) → List (List ℕ) → List (List ℕ) → Option Name → Type 0
Repeats old names new (Some n) = (rest : List (List ℕ)) → first_repeat old (names ++ rest) ≡ Some n.text.items
Repeats old names new None = ((rest : List (List ℕ)) → first_repeat old (names ++ rest) ≡ first_repeat new rest) × (new ≡ old ++ names)

-- the names that modules define, or the one that is defined twice
abbrev pub Collects : List Module → Collected → Type 0
Collects ms (c.Names ns) = (doubled ms ≡ None) × (ns ≡ callables ms)
Collects ms (c.Twice n) = doubled ms ≡ Some n.text.items

-- why no program can be made, with the letters of names
pub data Fault : Type 0 where
  NoMain : Fault
  TwoMains : Fault
  Doubled : List ℕ → Fault
  Unresolved : List ℕ → Fault
  SegmentsFull : ℕ → Fault
  EntriesFull : List ℕ → ℕ → Fault
  SegmentFull : List ℕ → ℕ → Fault

-- the fault that is answered, if it is not want of memory
abbrev pub fault_of : PrepFault → Option Fault
fault_of f.NoMain = Some NoMain
fault_of f.TwoMains = Some TwoMains
fault_of (f.Doubled n) = Some (Doubled n.text.items)
fault_of (f.Unresolved n) = Some (Unresolved n.text.items)
fault_of (f.SegmentsFull count) = Some (SegmentsFull count)
fault_of (f.EntriesFull n count) = Some (EntriesFull n.text.items count)
fault_of (f.SegmentFull n words) = Some (SegmentFull n.text.items words)
fault_of f.NoMemory = None

-- the fault of so many main bodies
abbrev pub main_faults : ℕ → Option Fault
main_faults n = if n == 0 then Some NoMain else if nat_lt 1 n then Some TwoMains else None

-- the fault of names: one that is defined twice, or one that is wanted and not defined
abbrev pub name_faults : List Module → Option Fault
name_faults ms = either (option_map Doubled (doubled ms)) (option_map Unresolved (unresolved ms))

-- the fault of so many segments
abbrev pub segment_faults : ℕ → Option Fault
segment_faults n = if nat_lt 62 n then Some (SegmentsFull n) else None

-- the fault of the entries and words of segments: of entries first
abbrev pub size_faults : List Part → Option Fault
size_faults ps = either (option_map (λ p. EntriesFull p.0 p.1) (entries_full ps)) (option_map (λ p. SegmentFull p.0 p.1) (segment_full ps))

-- the first fault of modules
abbrev pub first_fault : List Module → Option Fault
first_fault ms = either (main_faults (mains ms)) (either (name_faults ms) (either (segment_faults (length (segment_names ms))) (size_faults (parts ms))))

-- what is answered is the first fault, or memory is wanting
abbrev pub Faults : List Module → PrepFault → Type 0
Faults ms f.NoMemory = Unit {0}
Faults ms other = first_fault ms ≡ fault_of other
