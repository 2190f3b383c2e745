-- Relations of DOUBLEs: both wait on top, DCMP compares and deletes them, and the code decides where the test leads.
use Rattle.std.proofs.Common.{◌≡◌, ℕ, ◌+◌, ◌-◌, ◌≤◌, true, false, List, [], ◌∷◌, ◌++◌, length, refl, sym, ap, subst, ◌∙◌, arith}
use Rattle.std.specs.Prelude.{take, if◌then◌else◌}
use Rattle.spl_operators.specs.hp_word.declared.arithmetic.Code.{Code}
use Rattle.spl_operators.specs.hp_word.Bytes.{double}
use Rattle.spl_operators.specs.hp_word.Words.{doubles_compared}
use Rattle.spl_operators.specs.hp_instr.declared.instruction.Instr.TheVariants as i
use Rattle.spl_operators.specs.hp_instr.Instructions.{op}
use Rattle.spl_operators.specs.hp_session.State.{Machine, word}
use Rattle.spl_operators.specs.hp_stack_rows.StackRows.{operated, upper_double}
use Rattle.spl_operators.specs.hp_memory_rows.MemoryRows.{is_named}
use Rattle.spl_operators.proofs.hp_yields_proofs.StackYields as rows
use Rattle.spl_operators.specs.spl_branch.declared.pieces.Piece.TheVariants.{Do}
use Rattle.spl_operators.specs.spl_meaning.Kinds.{doubles, is_relation, relation_number}
use Rattle.spl_operators.specs.spl_meaning.Names.{truth_word}
use Rattle.spl_operators.specs.spl_meaning.Operations.{is_odd, related, relation_done, by_class}
use Rattle.spl_operators.specs.spl_meaning.References.{Setting}
use Rattle.spl_operators.specs.spl_meaning.States.{Data, State, Outcome, then_go}
use Rattle.spl_operators.specs.spl_code.Code as made
use Rattle.spl_operators.specs.spl_code.Code.{as_value, as_test}
use Rattle.spl_operators.specs.spl_code.Instructions.{BCC}
use Rattle.spl_operators.specs.spl_code.Operators.{comparison, failing_codes}
use Rattle.spl_operators.specs.spl_code.Parts.{Part, pieces, ◌⨟◌}
use Rattle.spl_operators.specs.spl_follow.Spots.{Spot, pos, landed, on, Ground}
use Rattle.spl_operators.specs.spl_follow.Leading.{Leads}
use Rattle.spl_operators.specs.spl_follow.Matching.{outer, Matches, Kept, Coded, IsValue, Arrives}
use Rattle.spl_operators.specs.spl_follow.Following.{Rate, tally, tally_with, Goes, Follows, NoExit}
use Rattle.spl_operators.specs.spl_follow.Doing.{doing, turning}
use Rattle.spl_operators.specs.spl_follow.Parts.{Tested}
use Rattle.spl_operators.specs.spl_follow.Simulating.{Surroundings, Simulates}
use Rattle.spl_operators.proofs.spl_follow_proofs.FollowLemmas.{bind_follows, then_follows}
use Rattle.spl_operators.proofs.spl_follow_proofs.KeepLemmas.{kept_top, matched_length, value_word, value_ready, values_join}
use Rattle.spl_operators.proofs.spl_follow_proofs.PartLemmas.{stand_in_order}
use Rattle.spl_operators.proofs.spl_follow_proofs.RowLemmas.{becomes_goes, becomes_matches, yields_matched, yields_kept}
use Rattle.spl_operators.proofs.spl_follow_proofs.StandLemmas.{closed_last}
use Rattle.spl_operators.specs.spl_values.Reached.{IsWhole}
use Rattle.spl_operators.proofs.spl_values_proofs.GiveLemmas.{last_leads}
use Rattle.spl_operators.proofs.spl_values_proofs.SumLemmas.{front_on}
use Rattle.spl_operators.proofs.spl_values_proofs.WholeLemmas.{whole_then, whole_behind}
use Rattle.spl_operators.proofs.spl_conditions_proofs.BranchLemmas.{branch_leads, code_branches}
use Rattle.spl_operators.proofs.spl_conditions_proofs.ConditionLemmas.{Answers, answers_then, conditions}
use Rattle.spl_operators.proofs.spl_conditions_proofs.RelationLemmas.{fails_where}
use Rattle.spl_operators.proofs.RowLemmas.{value_there}
use Rattle.spl_doubles.specs.Laws.{DoubleRelationsSimulate}

-- ---- DCMP

-- both doubles are deleted, and the code is theirs
doubles_compared_follow : (g : Ground) (w : Rate) (p q : Spot) (st : Setting) (s : State) (m : Machine) (d0 : Data) (m0 : Machine) (k h l h' l' : ℕ)
    → Leads g (on p) q (doing g.segments (i.Pair (op 0o10) (op 0)) q) → IsValue st p 4 k d0 m0 (h ∷ l ∷ h' ∷ l' ∷ []) s m
    → (n : Machine) × Goes g w (pos q - pos p) 0 w.reach (tally s) m (tally s) n × Arrives st q k d0 m0 s n
    × (n.regs.code ≡ doubles_compared (double h l) (double h' l'))
doubles_compared_follow g w p q st s m d0 m0 k h l h' l' leads x =
    let vs : List ℕ = h ∷ l ∷ h' ∷ l' ∷ [] in
    let y = rows.double_compare m (value_there st p 4 k d0 m0 vs s m x) in
    let rest : List ℕ = take (length m.stack - 4) m.stack ++ [] in
    let top = kept_top (d0.top + k) d0 m0.stack s.now m.stack x.kept in
    let long = matched_length st s.now m k 4 d0.top x.matches top in
    let none : k + 0 ≡ k = omega arith in
    let matches : Matches st s.now rest (outer m) k = subst (λ (j : ℕ). Matches st s.now rest (outer m) j) none (yields_matched st s.now m k 4 [] x.matches) in (
      landed q y.words.left,
      becomes_goes g w (on p) q (doing g.segments (i.Pair (op 0o10) (op 0)) q) st s.begun s m (k + 4) (operated 0o10 m) rest (outer m) y.words leads refl x.at refl
          x.matches refl,
      record {
        at = refl;
        matches = becomes_matches st s.now k (operated 0o10 m) rest (outer m) y.words matches;
        kept = subst (λ (xs : List ℕ). Kept (d0.top + k) d0 m0.stack s.now xs) (sym y.words.words)
            (yields_kept (d0.top + k) d0 m0.stack s.now m.stack [] 4 x.kept long);
        coded = subst (λ c. Coded c y.words.left.regs.code) (sym x.silent) tt;
      },
      y.code
          ∙ ap (λ (b : ℕ). doubles_compared (double b (word 2 m)) (upper_double m)) (value_word st p 4 k 3 0 d0 m0 vs s m x refl)
          ∙ ap (λ (b : ℕ). doubles_compared (double h b) (upper_double m)) (value_word st p 4 k 2 1 d0 m0 vs s m x refl)
          ∙ ap (λ (b : ℕ). doubles_compared (double h l) (double b (word 0 m))) (value_word st p 4 k 1 2 d0 m0 vs s m x refl)
          ∙ ap (λ (b : ℕ). doubles_compared (double h l) (double h' b)) (value_word st p 4 k 0 3 d0 m0 vs s m x refl),
    )

-- ---- relations as tests

-- DCMP and then BCC: the test is that of the relation's answer.
relation_follows : (g : Ground) (w : Rate) (p r q to : Spot) (st : Setting) (s : State) (m : Machine) (d0 : Data) (m0 : Machine) (k h l h' l' n : ℕ)
    → Leads g (on p) r (doing g.segments (i.Pair (op 0o10) (op 0)) r) → Leads g (on r) q (turning (i.OnCode (failing_codes n) false 0) to q)
    → IsValue st p 4 k d0 m0 (h ∷ l ∷ h' ∷ l' ∷ []) s m
    → Follows g w (pos q - pos p) 0 w.reach (tally s) m (Tested st q to k d0 m0) NoExit (relation_done n (doubles_compared (double h l) (double h' l')) s)
relation_follows g w p r q to st s m d0 m0 k h l h' l' n leads branch x =
    let c = doubles_compared (double h l) (double h' l') in
    let first = doubles_compared_follow g w p r st s m d0 m0 k h l h' l' leads x in
    let second = code_branches g w r q to (failing_codes n) false 0 k st s first.0 d0 m0 branch first.2 in
    let one = leads.rise in
    let two = branch.rise in
    let there : (if is_named (failing_codes n) first.0.regs.code then to else q) ≡ (if is_odd (truth_word (related n c)) then q else to) =
    ap (λ (e : Code). if is_named (failing_codes n) e then to else q) first.3 ∙ fails_where n c to q in
    then_follows g w (pos r - pos p) 0 w.reach (pos q - pos r) 0 w.reach (pos q - pos p) 0 w.reach (tally s) m (tally s) first.0 (Tested st q to k d0 m0) NoExit
    (relation_done n c s) first.1 (second.0, second.1, (subst (λ (y : Spot). Arrives st y k d0 m0 s second.0) there second.2, x.silent))
    (omega (arith, one, two)) (omega arith) (omega arith)

-- what a relation answers
doubles_related : (o h l h' l' : ℕ) (s : State) → is_relation o ≡ true
    → by_class doubles o (h ∷ l ∷ []) (h' ∷ l' ∷ []) s ≡ relation_done (relation_number o) (doubles_compared (double h l) (double h' l')) s
doubles_related o h l h' l' s e = rw e refl

-- by the words of both
by_lists : (g : Ground) (w : Rate) (p r q to : Spot) (st : Setting) (s : State) (m : Machine) (d0 : Data) (m0 : Machine) (k o : ℕ) → is_relation o ≡ true
    → Leads g (on p) r (doing g.segments (i.Pair (op 0o10) (op 0)) r) → Leads g (on r) q (turning (i.OnCode (failing_codes (relation_number o)) false 0) to q)
    → (vs us : List ℕ) → length vs ≡ 2 → length us ≡ 2 → IsValue st p 4 k d0 m0 (vs ++ us) s m
    → Follows g w (pos q - pos p) 0 w.reach (tally s) m (Tested st q to k d0 m0) NoExit (by_class doubles o vs us s)
by_lists g w p r q to st s m d0 m0 k o e leads branch (h ∷ l ∷ []) (h' ∷ l' ∷ []) one two x =
    subst (λ (y : Outcome (List ℕ)). Follows g w (pos q - pos p) 0 w.reach (tally s) m (Tested st q to k d0 m0) NoExit y) (sym (doubles_related o h l h' l' s e))
    (relation_follows g w p r q to st s m d0 m0 k h l h' l' (relation_number o) leads branch x)
by_lists g w p r q to st s m d0 m0 k o e leads branch [] us one two x = absurd (omega (arith, one))
by_lists g w p r q to st s m d0 m0 k o e leads branch (h ∷ []) us one two x = absurd (omega (arith, one))
by_lists g w p r q to st s m d0 m0 k o e leads branch (h ∷ l ∷ v ∷ vs) us one two x = absurd (omega (arith, one))
by_lists g w p r q to st s m d0 m0 k o e leads branch (h ∷ l ∷ []) [] one two x = absurd (omega (arith, two))
by_lists g w p r q to st s m d0 m0 k o e leads branch (h ∷ l ∷ []) (h' ∷ []) one two x = absurd (omega (arith, two))
by_lists g w p r q to st s m d0 m0 k o e leads branch (h ∷ l ∷ []) (h' ∷ l' ∷ u ∷ us) one two x = absurd (omega (arith, two))

-- two operands, the comparison and the branch
relation_tests : (z : Surroundings) (d k need more o fail : ℕ) (a b : Part) (first other : State → Outcome (List ℕ)) → is_relation o ≡ true → IsWhole a
    → IsWhole b → Simulates z d as_value 2 k need a first → Simulates z d as_value 2 (k + 2) more b other → more + 2 ≤ need
    → Simulates z d (as_test fail) 1 k need (a ⨟ b ⨟ pieces (comparison doubles) ⨟ made.related (relation_number o) fail)
    (λ s. then_go (first s) (λ vs t. then_go (other t) (λ us u. by_class doubles o vs us u)))
relation_tests z d k need more o fail a b first other e wa wb sa sb enough = record {
  does = λ h ws p q s l m stands front ready.
      let x = a h ws in
      let y = b (h + x.marks) x.wants in
      let g = z.ground in
      let w = z.rate in
      let st = z.setting in
      let n = relation_number o in
      let to = z.sites.marks fail in
      let compare = Do (i.Pair (op 0o10) (op 0)) ∷ [] in
      let both = closed_last x.pieces y.pieces (wb.closed (h + x.marks) x.wants) in
      let branch = stand_in_order g z.sites (x.pieces ++ y.pieces ++ compare) (BCC (failing_codes n) fail ∷ []) p q
      (closed_last (x.pieces ++ y.pieces) compare refl) stands in
      let end = stand_in_order g z.sites (x.pieces ++ y.pieces) compare p branch.0 both branch.1 in
      let cut = stand_in_order g z.sites x.pieces y.pieces p end.0 (wa.closed h ws) end.1 in
      let room : 2 + more ≤ need = omega (arith, enough) in
      let before = cut.3 in
      let between = cut.4 in
      let far = end.4 in
      let far' = branch.4 in
      let many = w.enough in
      bind_follows g w (pos cut.0 - pos p.at) 1 w.reach (pos q - pos cut.0) 1 w.reach (pos q - pos p.at) 1 w.reach (tally_with l s) m (IsValue st cut.0 2 k s.now m)
      (Tested st q to k s.now m) NoExit (first s) (λ vs t. then_go (other t) (λ us u. by_class doubles o vs us u))
      (sa.does h ws p cut.0 s l m cut.1 (front_on x.wants y.wants z.wants (wb.keeps (h + x.marks) x.wants) front) ready)
      (λ vs t m1 v fewer. bind_follows g w (pos end.0 - pos cut.0) 1 w.reach (pos q - pos end.0) 0 w.reach (pos q - pos cut.0) 1 w.reach (tally t) m1
      (IsValue st end.0 2 (k + 2) t.now m1) (Tested st q to k s.now m) NoExit (other t) (λ us u. by_class doubles o vs us u)
      (sb.does (h + x.marks) x.wants (on cut.0) end.0 t t.begun m1 cut.2 front (value_ready st d p cut.0 k need 2 more s l m vs t m1 ready v fewer room))
      (λ us u m2 j less. by_lists g w end.0 branch.0 q to st u m2 s.now m k o e (last_leads g z.sites (on end.0) (i.Pair (op 0o10) (op 0)) branch.0 end.2)
      (branch_leads g z.sites (on branch.0) (i.OnCode (failing_codes n) false 0) fail q branch.2) vs us v.wide j.wide
      (values_join st cut.0 end.0 2 2 k s.now m vs us t m1 u m2 v j))
      (omega (arith, between, far, far')) (omega arith) (omega (arith, many)) (omega (arith, many)))
      (omega (arith, before, between, far, far')) (omega arith) (omega (arith, many)) (omega (arith, many));
}

-- ---- relations

-- a relation answers, whatever its operands are
doubles_answer : (o : ℕ) → is_relation o ≡ true → (vs us : List ℕ) (s : State) → Answers (by_class doubles o vs us s)
doubles_answer o e (h ∷ l ∷ []) (h' ∷ l' ∷ []) s =
    subst (λ (x : Outcome (List ℕ)). Answers x) (sym (doubles_related o h l h' l' s e)) (related (relation_number o) (doubles_compared (double h l) (double h' l')), refl)
doubles_answer o e [] us s = tt
doubles_answer o e (h ∷ []) us s = tt
doubles_answer o e (h ∷ l ∷ v ∷ vs) us s = tt
doubles_answer o e (h ∷ l ∷ []) [] s = tt
doubles_answer o e (h ∷ l ∷ []) (h' ∷ []) s = tt
doubles_answer o e (h ∷ l ∷ []) (h' ∷ l' ∷ u ∷ us) s = tt

-- its code is whole, since the branch closes it
relation_whole : (n fail : ℕ) (operands : Part) → IsWhole operands → IsWhole (operands ⨟ pieces (comparison doubles) ⨟ made.related n fail)
relation_whole n fail operands x =
    whole_behind (operands ⨟ pieces (comparison doubles)) (BCC (failing_codes n) fail ∷ []) (whole_behind operands (comparison doubles) x refl) refl

pub relations_give : DoubleRelationsSimulate
relations_give z d k need more o aim a b first other e wa wb sa sb enough =
    conditions z d k need aim (λ fail. a ⨟ b ⨟ pieces (comparison doubles) ⨟ made.related (relation_number o) fail)
    (λ s. then_go (first s) (λ vs t. then_go (other t) (λ us u. by_class doubles o vs us u))) (omega (arith, enough))
    (λ fail. relation_whole (relation_number o) fail (a ⨟ b) (whole_then a b wa wb))
    (λ s. answers_then (first s) (λ vs t. then_go (other t) (λ us u. by_class doubles o vs us u))
    (λ vs t. answers_then (other t) (λ us u. by_class doubles o vs us u) (λ us u. doubles_answer o e vs us u)))
    (λ fail. relation_tests z d k need more o fail a b first other e wa wb sa sb enough)
