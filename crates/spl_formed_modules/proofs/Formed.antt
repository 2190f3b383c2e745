-- Each module of units is well formed.
use Rattle.std.proofs.Common.{◌≡◌, ◌<◌, ◌≤◌, ◌⊎◌, inl, inr, ℕ, ◌+◌, ◌&&◌, nat_lt, not, Bool, true, false, if◌then◌else◌, List, [], ◌∷◌, replicate, codes, Option, Some, None, refl, sym, ap, subst, ◌∙◌, arith}
use Rattle.std.specs.List.{list_all}
use Rattle.std.specs.Prelude.{unwrap_or, is_some}
use Rattle.std.specs.Global.{Vec}
use Rattle.std.proofs.lemmas.Bool.{and_parts, and_from, lt-ltb, ltb-true, cases_lt}
use Rattle.std.proofs.lemmas.List.{get_or-replicate}
use Rattle.std.proofs.lemmas.List.Folds.{list_all-append}
use Prim.Native.String.{String}
use Rattle.spl_wanted_names.specs.hp_word.declared.intrinsics.Intrinsic.{Intrinsic}
use Rattle.spl_wanted_names.specs.spl_meaning.Names.{find, same_name, intrinsics, intrinsic_among, intrinsic_named}
use Rattle.mpe_segmenter.specs.spl_branch.declared.buffer.Code.{Code}
use Rattle.mpe_segmenter.specs.spl_branch.declared.modules.Define.{Define}
use Rattle.mpe_segmenter.specs.spl_branch.declared.modules.Want.{Want}
use Rattle.mpe_segmenter.specs.spl_branch.declared.modules.Module.{Module}
use Rattle.mpe_segmenter.specs.spl_branch.declared.pieces.Piece.{Piece}
use Rattle.mpe_segmenter.specs.spl_branch.Codes.{IsComplete}
use Rattle.mpe_segmenter.specs.spl_branch.Pieces.{is_set, sets, once}
use Rattle.spl_wanted_names.specs.spl_code.Parts.{wanted_of, wants_of}
use Rattle.spl_wanted_names.specs.spl_scopes.Scopes.{Placed, first_reached, placed_units}
use Rattle.spl_wanted_names.specs.spl_module_code.Modules.{uses, is_taken, next_number, numbered, marks_before, module_written, IsCodeOf, IsModuleOf, AreOfUnit, AreOf, program_uses}
use Rattle.spl_wanted_names.specs.spl_module_code.Modules.{AreOfUnit as u}
use Rattle.spl_wanted_names.specs.spl_module_code.Modules.{AreOf as a}
use Rattle.mpe_segmenter.specs.Entries.{gate_of}
use Rattle.mpe_segmenter.specs.Counts.{is_gate_or_name, is_below, is_well_formed}
use Rattle.spl_complete_codes.proofs.Complete.{complete}
use Rattle.spl_wanted_names.specs.Wants.{names_gate}
use Rattle.spl_wanted_names.proofs.Intrinsics.{same_letters}
use Rattle.spl_wanted_names.proofs.Modules.{wants_known}
use Rattle.spl_formed_modules.specs.Laws.{ModulesAreFormed}
use Rattle.spl_formed_modules.proofs.Closings.{Closed}
use Rattle.spl_formed_modules.proofs.ClosedModules.{ending_module}
use Rattle.spl_formed_modules.proofs.Offsets.{Stood, stood_finished, stood_oversized}

-- ---- intrinsics have their entries in the gate

-- the names of a list are the gate's
abbrev InGate : List (String × Intrinsic) → Type 0
InGate [] = Unit {0}
InGate (g ∷ gs) = (nat_lt 0 (gate_of (codes g.0)) ≡ true) × InGate gs

among_known : (gs : List (String × Intrinsic)) (x : List ℕ) → InGate gs → is_some (intrinsic_among gs x) ≡ true → nat_lt 0 (gate_of x) ≡ true
among_known [] x all is = cc
among_known (g ∷ gs) x all is = by (same_name x (codes g.0)) refl (λ at. among_known gs x all.1 at)
  where
    by : (b : Bool) → same_name x (codes g.0) ≡ b → (is_some (intrinsic_among gs x) ≡ true → nat_lt 0 (gate_of x) ≡ true) → nat_lt 0 (gate_of x) ≡ true
    by true same rest = ap (λ y. nat_lt 0 (gate_of y)) (same_letters x (codes g.0) same) ∙ all.0
    by false other rest = rest (sym (ap (λ (b : Bool). is_some (if b then Some g.1 else intrinsic_among gs x)) other) ∙ is)

all_in_gate : InGate intrinsics
all_in_gate = (refl, (refl, (refl, (refl, (refl, (refl, (refl, (refl, tt))))))))

gate_known : (x : List ℕ) → is_some (intrinsic_named x) ≡ true → nat_lt 0 (gate_of x) ≡ true
gate_known x is = among_known intrinsics x all_in_gate is

gate_or_name : (w : Want) → names_gate (wanted_of w) ≡ true → is_gate_or_name w ≡ true
gate_or_name w is = by w.gate is
  where
    by : (b : Bool) → (if b then is_some (intrinsic_named w.name.text.items) else true) ≡ true → (if b then nat_lt 0 (gate_of w.name.text.items) else true) ≡ true
    by true h = gate_known w.name.text.items h
    by false h = refl

gates_or_names : (ws : List Want) → list_all names_gate (wants_of ws) ≡ true → list_all is_gate_or_name ws ≡ true
gates_or_names [] is = refl
gates_or_names (w ∷ ws) is =
    let both = and_parts (names_gate (wanted_of w)) (list_all names_gate (wants_of ws)) is in
    and_from (is_gate_or_name w) (list_all is_gate_or_name ws) (gate_or_name w both.0) (gates_or_names ws both.1)

-- ---- a module

first_set : (n : ℕ) → 0 < n → is_set (replicate n true) 0 ≡ true
first_set n lt = get_or-replicate n 0 true false lt

no_pieces : (ps : List Piece) (b : Bool) {A : Type 0} → b ≡ true → sets 0 ps ≡ once b → ps ≡ [] → A
no_pieces ps true {A} is count none = absurd (clash (sym (ap (sets 0) none) ∙ count))
  where
    clash : ◌≡◌ {A = ℕ} 0 1 → ⊥
    clash e = omega (arith, e)
no_pieces ps false {A} is count none = cc

many : (m n k : ℕ) → m ≡ n + k → 0 < n → 0 < m
many m n k is lt = omega (arith, is, lt)

-- code of a segment that is used ends with a word
closed : (p : Placed) (name : List ℕ) (g : ℕ) (c : Code) → IsCodeOf p name g c → uses p g ≡ true → Closed c.pieces.items
closed p name g c is used = by ((ending_module p g).ends (marks_before p g) [])
  where
    by : ((module_written p g).pieces ≡ []) ⊎ Closed (module_written p g).pieces → Closed c.pieces.items
    by (inr there) = subst Closed (sym is.pieces) there
    by (inl none) =
        let some : is_set c.marks.items 0 ≡ true =
        ap (λ ms. is_set ms 0) is.marks
        ∙ first_set (marks_before p g + (module_written p g).marks)
        (many (marks_before p g + (module_written p g).marks) (marks_before p g) (module_written p g).marks refl (ltb-true 0 (marks_before p g) used)) in
        no_pieces c.pieces.items (is_set c.marks.items 0) some (c.in_step 0) (is.pieces ∙ none)

all_four : (m : Module) → Stood m → list_all is_gate_or_name m.wants.items ≡ true → is_well_formed m ≡ true
all_four m s wants =
    let defines : Bool = list_all (λ (d : Define). nat_lt d.offset m.size) m.defines.items in
    and_from (nat_lt 0 m.size && defines && is_below m.size m.main) (list_all is_gate_or_name m.wants.items)
    (and_from (nat_lt 0 m.size && defines) (is_below m.size m.main) (and_from (nat_lt 0 m.size) defines (lt-ltb 0 m.size s.words) s.defines) s.main) wants

pub formed : (p : Placed) (name : List ℕ) (g : ℕ) (m : Module) → IsModuleOf p name g m → uses p g ≡ true → is_well_formed m ≡ true
formed p name g m of used =
    let whole : IsComplete of.code = complete p name g of.code of.is in
    let ends : Closed of.code.pieces.items = closed p name g of.code of.is used in
    let known = (wants_known p name g of.code of.is).1 in
    all_four m (by whole ends (cases_lt 16383 m.size))
    (ap (λ (v : Vec Want). list_all is_gate_or_name v.items) of.wants ∙ gates_or_names of.code.wants.items known)
  where
    by : IsComplete of.code → Closed of.code.pieces.items → (16383 < m.size) ⊎ (m.size ≤ 16383) → Stood m
    by whole ends (inl long) = stood_oversized of.code m whole (of.oversized long)
    by whole ends (inr le) = stood_finished of.code m whole ends (of.finished le) le

-- ---- all modules

some_inside : (d x y : ℕ) → Some x ≡ Some y → x ≡ y
some_inside d x y is = ap (λ o. unwrap_or o d) is

-- a module has a segment that its unit uses and that had none
pub next_used : (p : Placed) (taken : List ℕ) (o : Option ℕ) (g : ℕ) → next_number p taken o ≡ Some g → (uses p g ≡ true) × (not (is_taken g taken) ≡ true)
next_used p taken None g is = cc
next_used p taken (Some h) g is = by (uses p h && not (is_taken h taken)) refl is
  where
    by : (b : Bool) → (uses p h && not (is_taken h taken)) ≡ b → (if b then Some h else None) ≡ Some g → (uses p g ≡ true) × (not (is_taken g taken) ≡ true)
    by true both at =
        let same : h ≡ g = some_inside h h g at in
        and_parts (uses p g) (not (is_taken g taken)) (subst (λ k. (uses p k && not (is_taken k taken)) ≡ true) same both)
    by false both at = cc

formed_unit : (p : Placed) (taken : List ℕ) (names : List (List ℕ)) (ms : List Module) → AreOfUnit p taken names ms → list_all is_well_formed ms ≡ true
formed_unit p taken [] _ u.none = refl
formed_unit p taken (name ∷ names) _ (u.more {g = g} {m = m} {ms = ms} at of rest) =
    and_from (is_well_formed m) (list_all is_well_formed ms)
    (formed p name g m of (next_used p taken (find (numbered 0 p.unit.segments) name) g at).0) (formed_unit p (g ∷ taken) names ms rest)
formed_unit p taken (name ∷ names) ms (u.skip at rest) = formed_unit p taken names ms rest

formed_units : (names : List (List ℕ)) (ps : List Placed) (ms : List Module) → AreOf names ps ms → list_all is_well_formed ms ≡ true
formed_units names [] _ a.none = refl
formed_units names (p ∷ ps) _ (a.more {ms = ms} {ns = ns} one others) =
    list_all-append is_well_formed ms ns
    ∙ and_from (list_all is_well_formed ms) (list_all is_well_formed ns) (formed_unit p [] names ms one) (formed_units names ps ns others)

pub all_formed : ModulesAreFormed
all_formed us ms are = formed_units (program_uses us) (placed_units (first_reached us) us) ms are
