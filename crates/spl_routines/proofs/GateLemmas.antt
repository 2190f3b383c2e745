-- The names of intrinsics lead to where these are served.
use Prim.Native.String.{String}
use Rattle.std.proofs.Common.{◌≡◌, ℕ, zero, suc, ◌+◌, Bool, true, false, List, [], ◌∷◌, map, codes, Option, Some, refl, ap, subst, ◌∙◌}
use Rattle.std.specs.Global.{Vec}
use Rattle.std.specs.Prelude.{slice_get, unwrap_or, if◌then◌else◌}
use Rattle.spl_carries.specs.hp_word.declared.intrinsics.Intrinsic.{Intrinsic}
use Rattle.spl_carries.specs.hp_call_rows.GateRows.{intrinsic}
use Rattle.spl_ways.specs.spl_branch.declared.modules.Want.{Want}
use Rattle.spl_ways.specs.spl_branch.declared.modules.Module.{Module}
use Rattle.spl_carries.specs.spl_meaning.Names.{same_name, intrinsics, intrinsic_among, intrinsic_named}
use Rattle.spl_label_marks.specs.spl_code.Parts.{Wanted, wanted_of, wants_of}
use Rattle.spl_ways.specs.mpe_segmenter.Names.{Part, parts}
use Rattle.spl_ways.specs.mpe_segmenter.Entries.{gate_from, gate_of}
use Rattle.spl_ways.specs.mpe_segmenter.Counts.{sizes}
use Rattle.spl_ways.specs.mpe_segmenter.Programs.{program_words}
use Rattle.spl_ways.specs.mpe_segmenter.Sites.{IsModule, module_entries}
use Rattle.spl_ways.specs.mpe_segmenter.Whole.{IsWhole}
use Rattle.spl_endings.specs.spl_follow.Doing.{Way, gate}
use Rattle.spl_endings.specs.Gates.{GatesLead}
use Rattle.spl_ways.specs.Ways.{module_sites}
use Rattle.spl_ways.proofs.WayLemmas.{gate_leads}
use Rattle.spl_routines.specs.Located.{sites_at}
use Rattle.spl_routines.specs.Laws.{GatesAreServed}

-- ---- entries of the gate

-- the entries from one on serve these intrinsics
abbrev Serve : ℕ → List (String × Intrinsic) → Type 0
Serve k [] = Unit {0}
Serve k (g ∷ gs) = (intrinsic k ≡ Some g.1) × Serve (k + 1) gs

among_serve : (k : ℕ) (gs : List (String × Intrinsic)) (x : List ℕ) (n : Intrinsic) → Serve k gs → intrinsic_among gs x ≡ Some n
    → intrinsic (gate_from k (map (λ (g : String × Intrinsic). codes g.0) gs) x) ≡ Some n
among_serve k [] x n serve e = cc
among_serve k (g ∷ gs) x n serve e = by (same_name x (codes g.0)) e (λ f. among_serve (k + 1) gs x n serve.1 f) where
  by : (b : Bool) → (if b then Some g.1 else intrinsic_among gs x) ≡ Some n
      → (intrinsic_among gs x ≡ Some n → intrinsic (gate_from (k + 1) (map (λ (g : String × Intrinsic). codes g.0) gs) x) ≡ Some n)
      → intrinsic (if b then k else gate_from (k + 1) (map (λ (g : String × Intrinsic). codes g.0) gs) x) ≡ Some n
  by true e rest = serve.0 ∙ e
  by false e rest = rest e

-- the entry of an intrinsic's name serves it
name_serves : (x : List ℕ) (n : Intrinsic) → intrinsic_named x ≡ Some n → intrinsic (gate_of x) ≡ Some n
name_serves x n e = among_serve 1 intrinsics x n (refl, (refl, (refl, (refl, (refl, (refl, (refl, (refl, tt)))))))) e

-- ---- wants

-- a want by its letters
want_there : (ws : List Want) (index : ℕ) (v : Wanted) → slice_get (wants_of ws) index ≡ Some v → (w : Want) × (slice_get ws index ≡ Some w) × (wanted_of w ≡ v)
want_there [] index v e = cc
want_there (w ∷ ws) zero v e = let same : wanted_of w ≡ v = cc in (w, refl, same)
want_there (w ∷ ws) (suc index) v e = want_there ws index v e

module_gates_lead : (ps : List Part) → IsWhole ps → (seg : ℕ) (front : List Module) (m : Module) (back : List Module) → IsModule ps seg front m back
    → (marks : ℕ → ℕ) → GatesLead (module_sites (program_words ps) seg (sizes front) marks (module_entries front m back)) (wants_of m.wants.items)
module_gates_lead ps w seg front m back is marks index name n there named =
    let v = want_there m.wants.items index (record { name = name; gate = true }) there in
    let gated : v.0.gate ≡ true = ap (λ (x : Wanted). x.gate) v.2 in
    let letters : v.0.name.text.items ≡ name = ap (λ (x : Wanted). x.name) v.2 in
    record {
      entry = gate_of v.0.name.text.items;
      leads = ap (λ (o : Option Way). unwrap_or o (gate 0)) (gate_leads ps w seg front m back is index v.0 v.1 gated);
      serves = name_serves v.0.name.text.items n (ap (λ (x : List ℕ). intrinsic_named x) letters ∙ named);
    }

-- of a module as it stands
pub gates_are_served : GatesAreServed
gates_are_served us p ms f q g at =
    subst (λ (ws : List Want). GatesLead (sites_at at) (wants_of ws)) (ap (λ (w : Vec Want). w.items) at.of.wants)
    (module_gates_lead (parts ms) f.whole at.seg at.front at.here at.back at.is at.finished.marks)
