-- Pieces that begin well fit where the ground has their starts.
-- 1. what starts at a place, and behind it                            (start_here, behind_due)
-- 2. so each piece fits, one behind the other                         (all_fit)
use Rattle.std.proofs.Common.{◌≡◌, ◌+◌, ◌<◌, ◌≤◌, ℕ, Bool, true, false, List, [], ◌∷◌, ◌++◌, length, Option, None, Some, is_some, refl, ap, ◌∙◌, arith}
use Rattle.std.specs.Prelude.{if◌then◌else◌, slice_get}
use Rattle.std.specs.List.{list_all}
use Rattle.std.proofs.lemmas.Bool.{and_parts, eq-eqb, ne_eqb}
use Rattle.std.proofs.lemmas.Option.{slice_get_within}
use Rattle.std.proofs.lemmas.Bool.Decides.{nat_tests}
use Rattle.mpe_segmenter.specs.hp_program.declared.program.Program.{Program}
use Rattle.mpe_segmenter.specs.hp_program.Programs.{segments_of}
use Rattle.mpe_segmenter.specs.hp_program.Valid.{is_head}
use Rattle.mpe_segmenter.proofs.hp_program_proofs.ValidLaws.{right_head, segment_fits}
use Rattle.mpe_segmenter.specs.spl_tree.declared.names_and_places.At.{At}
use Rattle.mpe_segmenter.specs.spl_branch.declared.pieces.Piece.{Piece}
use Rattle.mpe_segmenter.specs.spl_branch.declared.pieces.Piece.TheVariants.{Do, Literal, Place, Branch, Mark, Call, Begin}
use Rattle.mpe_segmenter.specs.spl_branch.declared.buffer.Code.{Code}
use Rattle.mpe_segmenter.specs.spl_branch.declared.modules.Start.{Start}
use Rattle.mpe_segmenter.specs.spl_branch.declared.spots.Spot as module_spot
use Rattle.mpe_segmenter.specs.spl_branch.Branches.{branch_size}
use Rattle.mpe_segmenter.specs.spl_branch.Pieces.{named, is_set, is_set_if, is_direct, sets, once}
use Rattle.mpe_segmenter.specs.spl_branch.Fixes.{starts_of}
use Rattle.mpe_segmenter.specs.spl_branch.Stands as decoded
use Rattle.mpe_segmenter.specs.spl_branch.Stands.{after, ahead}
use Rattle.mpe_segmenter.specs.spl_branch.Modules.{sites}
use Rattle.mpe_segmenter.specs.Names.{parts}
use Rattle.mpe_segmenter.specs.Counts.{sizes}
use Rattle.spl_stands.specs.spl_follow.Spots.{Ground, start_at}
use Rattle.spl_stands.specs.spl_follow.Standing.{Sites}
use Rattle.spl_stands.specs.Fitting.{placed, is_plain, AllFit}
use Rattle.spl_sites.specs.Beginnings.{begins_well, is_of_kind}
use Rattle.spl_sites.specs.Grounds.{started, ground_of, AllCallsLead}
use Rattle.spl_sites.specs.Laws.{ModulesFit}
use Rattle.spl_sites.proofs.PlaceLemmas.{first_left, left_low, instr_past, forth, size_some, all_forth, none_before, marks_low, moved_starts}
use Rattle.spl_sites.proofs.GroundLemmas.{said}

-- the start of a statement that is due
abbrev due_starts : ℕ → Option At → List Start
due_starts n None = []
due_starts n (Some at) = record { at = at; offset = n } ∷ []

behind_due : (n : ℕ) (due : Option At) (rest : List Start) (k : ℕ) → n < k → started 0 (due_starts n due ++ rest) k ≡ started 0 rest k
behind_due n None rest k low = refl
behind_due n (Some at) rest k low =
    ap (λ b. if b then Some at else started 0 rest k) (ne_eqb (0 + n) k (λ x. absurd (omega (arith, x, low))))

-- what is due is what starts, where nothing of the rest does
due_here : (n : ℕ) (due : Option At) (rest : List Start) → started 0 rest n ≡ None → started 0 (due_starts n due ++ rest) n ≡ due
due_here n None rest none = none
due_here n (Some at) rest none = ap (λ b. if b then Some at else started 0 rest n) (eq-eqb (0 + n) n (omega arith))

is_none : (due : Option At) (c : Bool) → (is_some due ≡ true → c ≡ false) → c ≡ true → None ≡ due
is_none None c half e = refl
is_none (Some at) c half e = let left : c ≡ false = half refl in cc

module _ (g : Ground) (seg : ℕ) (words : List ℕ) (s : decoded.Sites) (w : Sites) (ms : List Bool) (to : ℕ)
    (there : slice_get g.segments seg ≡ Some words) (byte : seg < 256) (short : length words ≤ 16383)
    (small : (l : ℕ) → is_set ms l ≡ true → s.marks l < 65536) where
  -- the ground has at the words from p on what is due there, and the starts of the pieces
  abbrev Says : module_spot.Spot → Option At → List Piece → Type 0
  Says p due ps = (k : ℕ) → first_left p ≤ k → k < to → g.starts seg k ≡ started 0 (due_starts p.offset due ++ starts_of s.marks p ps) k

  start_by : (n : ℕ) (due : Option At) (rest : List Start) (c : Bool) → (is_some due ≡ true → c ≡ false)
      → (n + (if c then 1 else 0) ≤ n → g.starts seg n ≡ started 0 (due_starts n due ++ rest) n) → started 0 rest n ≡ None
      → (if c then None else g.starts seg n) ≡ due
  start_by n due rest true half says none = is_none due true half refl
  start_by n due rest false half says none = says (omega arith) ∙ due_here n due rest none

  -- at a piece with words, behind which r is
  start_here : (p r q : module_spot.Spot) (due : Option At) (ps : List Piece) → (is_some due ≡ true → p.right ≡ false)
      → ((k : ℕ) → first_left p ≤ k → k < to → g.starts seg k ≡ started 0 (due_starts p.offset due ++ starts_of s.marks r ps) k)
      → p.offset < first_left r → p.offset < to → decoded.Stands words s r ps q → start_at g (placed seg p) ≡ due
  start_here p r q due ps half says low high stands =
      start_by p.offset due (starts_of s.marks r ps) p.right half (λ le. says p.offset le high) (none_before words s ps r q p.offset stands low)

  -- behind such a piece nothing is due
  says_next : (p r : module_spot.Spot) (due : Option At) (ps : List Piece)
      → ((k : ℕ) → first_left p ≤ k → k < to → g.starts seg k ≡ started 0 (due_starts p.offset due ++ starts_of s.marks r ps) k)
      → first_left p ≤ first_left r → p.offset < first_left r → Says r None ps
  says_next p r due ps says le low k from high =
      says k (omega (arith, le, from)) high ∙ behind_due p.offset due (starts_of s.marks r ps) k (omega (arith, low, from))

  -- no start is among the words of a branch behind its first
  none_within : (p r q : module_spot.Spot) (due : Option At) (ps : List Piece)
      → ((k : ℕ) → first_left p ≤ k → k < to → g.starts seg k ≡ started 0 (due_starts p.offset due ++ starts_of s.marks r ps) k)
      → decoded.Stands words s r ps q → first_left r ≤ to → first_left p ≤ p.offset + 1
      → (k : ℕ) → p.offset < k → k < first_left r → g.starts seg k ≡ None
  none_within p r q due ps says stands high half k low below =
      says k (omega (arith, half, low)) (omega (arith, below, high)) ∙ behind_due p.offset due (starts_of s.marks r ps) k low
      ∙ none_before words s ps r q k stands below

  pub all_fit : (ps : List Piece) (p : module_spot.Spot) (due : Option At) → (is_some due ≡ true → p.right ≡ false) → Says p due ps
      → begins_well (is_some due) ps ≡ true → list_all is_of_kind ps ≡ true → list_all (λ x. is_set_if ms (named x)) ps ≡ true
      → AllCallsLead g.segments seg s w ps → decoded.Stands words s p ps (decoded.at_left to) → AllFit g seg s w p due ps
  all_fit [] p None half says well kinds set calls stands = refl
  all_fit [] p (Some at) half says well kinds set calls stands = cc
  all_fit (Do by ∷ ps) p due half says well kinds set calls stands =
      let r = after s.marks p (Do by) (ahead ps) in
      let low : p.offset < first_left r = omega (arith, instr_past p by (ahead ps)) in
      let end = all_forth words s ps r (decoded.at_left to) stands.1 in
      let kind = and_parts (is_plain by) (list_all is_of_kind ps) kinds in (
        (start_here p r (decoded.at_left to) due ps half says low (omega (arith, low, end)) stands.1, kind.0),
        all_fit ps r None (λ e. absurd cc) (says_next p r due ps says (forth s.marks p (Do by) (ahead ps)) low) well kind.1 set calls.1 stands.1,
      )
  all_fit (Literal v ∷ ps) p None half says well kinds set calls stands =
      let r = decoded.at_left (p.offset + 1) in
      (refl, all_fit ps r None (λ e. absurd cc) (says_next p r None ps says (forth s.marks p (Literal v) (ahead ps)) (omega arith)) well kinds set calls.1 stands.1)
  all_fit (Literal v ∷ ps) p (Some at) half says well kinds set calls stands = cc
  all_fit (Place l ∷ ps) p None half says well kinds set calls stands =
      let r = decoded.at_left (p.offset + 1) in
      let sets = and_parts (is_set ms l) (list_all (λ x. is_set_if ms (named x)) ps) set in
      (refl, all_fit ps r None (λ e. absurd cc) (says_next p r None ps says (forth s.marks p (Place l) (ahead ps)) (omega arith)) well kinds sets.1 calls.1 stands.1)
  all_fit (Place l ∷ ps) p (Some at) half says well kinds set calls stands = cc
  all_fit (Branch by l ∷ ps) p due half says well kinds set calls stands =
      let size = size_some by p.offset (s.marks l) in
      let r = decoded.at_left (p.offset + branch_size by p.offset (s.marks l)) in
      let low : p.offset < first_left r = omega (arith, size) in
      let end = all_forth words s ps r (decoded.at_left to) stands.1 in
      let kind = and_parts (is_direct by) (list_all is_of_kind ps) kinds in
      let sets = and_parts (is_set ms l) (list_all (λ x. is_set_if ms (named x)) ps) set in
      let left : first_left p ≤ p.offset + 1 = left_low p in (
        (
          start_here p r (decoded.at_left to) due ps half says low (omega (arith, low, end)) stands.1,
          kind.0,
          small l sets.0,
          λ k above below. none_within p r (decoded.at_left to) due ps says stands.1 (omega (arith, end)) left k above (omega (arith, below)),
        ),
        all_fit ps r None (λ e. absurd cc) (says_next p r due ps says (forth s.marks p (Branch by l) (ahead ps)) low) well kind.1 sets.1 calls.1 stands.1,
      )
  all_fit (Mark l ∷ ps) p None half says well kinds set calls stands =
      let sets = and_parts (is_set ms l) (list_all (λ x. is_set_if ms (named x)) ps) set in
      (refl, all_fit ps p None half says well kinds sets.1 calls.1 stands.1)
  all_fit (Mark l ∷ ps) p (Some at) half says well kinds set calls stands = cc
  all_fit (Call by wanted index ∷ ps) p due half says well kinds set calls stands =
      let r = decoded.at_left (p.offset + 1) in
      let low : p.offset < first_left r = omega arith in
      let end = all_forth words s ps r (decoded.at_left to) stands.1 in
      let kind = and_parts (is_of_kind (Call by wanted index)) (list_all is_of_kind ps) kinds in
      let has = stands.0.1 in
      let within = slice_get_within words p.offset has.0 has.1 in
      let one = slice_get_within g.segments seg words there in (
        (
          start_here p r (decoded.at_left to) due ps half says low (omega (arith, low, end)) stands.1,
          record { offset = omega (arith, within, short); byte = byte; there = one },
          calls.0,
        ),
        all_fit ps r None (λ e. absurd cc) (says_next p r due ps says (forth s.marks p (Call by wanted index) (ahead ps)) low) well kind.1 set calls.1 stands.1,
      )
  all_fit (Begin at ∷ ps) p None half says well kinds set calls stands =
      (refl, all_fit ps p (Some at) (λ e. stands.0) says well kinds set calls.1 stands.1)
  all_fit (Begin at ∷ ps) p (Some other) half says well kinds set calls stands = cc

-- ---- modules

near_segment : (p : Program) (seg : ℕ) (words : List ℕ) → slice_get (segments_of p) seg ≡ Some words → seg < 256
unfolding is_head
near_segment p seg words there =
    let head = right_head (segments_of p) p.main p.entry p.globals.items p.valid in
    let one = slice_get_within (segments_of p) seg words there in
    let few : length (segments_of p) ≤ 62 = grind (arith, nat_tests) in
    omega arith

set_once : (c : Code) (l : ℕ) → is_set c.marks.items l ≡ true → 0 < sets l c.pieces.items
set_once c l set = omega (arith, c.in_step l ∙ ap once set)

pub modules_fit : ModulesFit
modules_fit p near ms seg front m back is c f segment entries w there few lies well kinds set calls =
    let base = sizes front in
    let s = sites base f.marks entries in
    let g = ground_of p near ms in
    let size = f.size in
    let short : length segment ≤ 16383 = segment_fits p seg segment there in
    let stands = f.stands segment base entries short few lies in
    let to = base + length m.words.items in
    let high : to ≤ 16383 = omega (arith, lies.within, short) in
    all_fit g seg segment s w c.marks.items to there (near_segment p seg segment there) short
    (λ l given. omega (arith, high, marks_low segment s c.pieces.items (decoded.at_left base) to l stands (set_once c l given)))
    c.pieces.items (decoded.at_left base) None (λ e. absurd cc)
    (λ k above below. said (parts ms) seg front m back is k (omega (arith, above)) (omega (arith, below, size))
    ∙ ap (λ (ss : List Start). started base ss k) f.starts ∙ moved_starts base f.marks c.pieces.items (decoded.at_left 0) k
    ∙ ap (λ (n : ℕ). started 0 (starts_of s.marks (decoded.at_left n) c.pieces.items) k) (omega arith))
    well kinds set calls stands
