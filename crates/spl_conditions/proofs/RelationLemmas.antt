-- Relations: both operands wait on top, are compared and deleted, and the code decides where the test leads.
use Rattle.std.proofs.Common.{◌≡◌, ℕ, ◌+◌, ◌-◌, ◌≤◌, Bool, true, false, List, [], ◌∷◌, ◌++◌, length, refl, sym, ap, subst, ◌∙◌, arith}
use Rattle.std.specs.Prelude.{◌==◌, not, take, if◌then◌else◌}
use Rattle.std.proofs.lemmas.Bool.{false≢true}
use Rattle.spl_values.specs.hp_word.declared.arithmetic.Code.{Code}
use Rattle.spl_values.specs.hp_word.declared.arithmetic.Code.TheVariants.{Greater, Less, Equal}
use Rattle.spl_values.specs.hp_word.Words.{words_compared, logically_compared}
use Rattle.spl_values.specs.hp_instr.declared.instruction.Instr.TheVariants as i
use Rattle.spl_values.specs.hp_instr.Instructions.{op}
use Rattle.spl_values.specs.hp_session.State.{Machine, word}
use Rattle.spl_values.specs.hp_stack_rows.StackRows.{operated}
use Rattle.spl_values.specs.hp_memory_rows.MemoryRows.{is_named}
use Rattle.spl_values.specs.hp_yields.Rows.{Codes}
use Rattle.spl_values.proofs.hp_yields_proofs.StackYields as rows
use Rattle.spl_values.specs.spl_branch.declared.pieces.Piece.TheVariants.{Do}
use Rattle.spl_values.specs.spl_meaning.Kinds.{Class, integers, logicals, doubles, mixed, is_relation, relation_number}
use Rattle.spl_values.specs.spl_meaning.Names.{truth_word}
use Rattle.spl_values.specs.spl_meaning.Operations.{is_odd, is_greater, is_less, is_equal, related, relation_done, by_class}
use Rattle.spl_values.specs.spl_meaning.References.{Setting}
use Rattle.spl_values.specs.spl_meaning.States.{Data, State, Outcome, then_go}
use Rattle.spl_values.specs.spl_code.Code as made
use Rattle.spl_values.specs.spl_code.Code.{Aim, as_value, as_test}
use Rattle.spl_values.specs.spl_code.Instructions.{BCC}
use Rattle.spl_values.specs.spl_code.Operators.{comparison, failing_codes}
use Rattle.spl_values.specs.spl_code.Parts.{Part, pieces, ◌⨟◌}
use Rattle.spl_values.specs.spl_follow.Spots.{Spot, pos, landed, on, Ground}
use Rattle.spl_values.specs.spl_follow.Leading.{Leads}
use Rattle.spl_values.specs.spl_follow.Matching.{outer, Matches, Kept, Coded, IsValue, Arrives}
use Rattle.spl_values.specs.spl_follow.Following.{Rate, tally, Goes, Follows, NoExit}
use Rattle.spl_values.specs.spl_follow.Doing.{doing, turning}
use Rattle.spl_values.specs.spl_follow.Parts.{Tested}
use Rattle.spl_values.specs.spl_follow.Simulating.{Surroundings, Simulates}
use Rattle.spl_values.proofs.spl_follow_proofs.FollowLemmas.{then_follows}
use Rattle.spl_values.proofs.spl_follow_proofs.KeepLemmas.{kept_top, matched_length, value_ready}
use Rattle.spl_values.proofs.spl_follow_proofs.PartLemmas.{stand_in_order}
use Rattle.spl_values.proofs.spl_follow_proofs.RowLemmas.{becomes_goes, becomes_matches, yields_matched, yields_kept}
use Rattle.spl_values.proofs.spl_follow_proofs.StandLemmas.{closed_last}
use Rattle.spl_values.specs.Reached.{is_word_class, IsWhole}
use Rattle.spl_values.proofs.GiveLemmas.{last_leads}
use Rattle.spl_values.proofs.SumLemmas.{lower_is, upper_is, two_there, operands_follow, front_on}
use Rattle.spl_values.proofs.WholeLemmas.{whole_then, whole_behind}
use Rattle.spl_conditions.specs.Laws.{RelationsSimulate}
use Rattle.spl_conditions.proofs.BranchLemmas.{branch_leads, code_branches}
use Rattle.spl_conditions.proofs.ConditionLemmas.{Answers, answers_then, conditions, condition_whole}

-- ---- where the branch leads

-- the mask names the codes in which a relation does not hold
pub fails_where : (n : ℕ) (c : Code) (to r : Spot)
    → (if is_named (failing_codes n) c then to else r) ≡ (if is_odd (truth_word (related n c)) then r else to)
unfolding is_named
fails_where n c to r = by (n == 0) (n == 1) (n == 2) (n == 3) (n == 4) c where
  by : (a b d e f : Bool) (c : Code)
      → (if is_named (if a then 5 else if b then 2 else if d then 6 else if e then 3 else if f then 4 else 1) c then to else r)
      ≡ (if is_odd (truth_word (if a then is_equal c else if b then not (is_equal c) else if d then is_less c else if e then is_greater c else if f then not (is_greater c) else not (is_less c))) then r else to)
  by true b d e f Greater = refl
  by true b d e f Less = refl
  by true b d e f Equal = refl
  by false true d e f Greater = refl
  by false true d e f Less = refl
  by false true d e f Equal = refl
  by false false true e f Greater = refl
  by false false true e f Less = refl
  by false false true e f Equal = refl
  by false false false true f Greater = refl
  by false false false true f Less = refl
  by false false false true f Equal = refl
  by false false false false true Greater = refl
  by false false false false true Less = refl
  by false false false false true Equal = refl
  by false false false false false Greater = refl
  by false false false false false Less = refl
  by false false false false false Equal = refl

-- ---- comparisons

-- what compares two words by its code: both are deleted, and the code is theirs
abbrev pub CompareBy : ℕ → (ℕ → ℕ → Code) → Type 0
CompareBy code f = (m : Machine) → 2 ≤ length m.stack → Codes 2 [] (f (word 1 m) (word 0 m)) m (operated code m)

-- the two words of a value are compared
words_compared_follow : (g : Ground) (w : Rate) (p q : Spot) (st : Setting) (s : State) (m : Machine) (d0 : Data) (m0 : Machine) (k v u code : ℕ)
    (f : ℕ → ℕ → Code) → CompareBy code f → Leads g (on p) q (doing g.segments (i.Pair (op code) (op 0)) q) → IsValue st p 2 k d0 m0 (v ∷ u ∷ []) s m
    → (n : Machine) × Goes g w (pos q - pos p) 0 w.reach (tally s) m (tally s) n × Arrives st q k d0 m0 s n × (n.regs.code ≡ f v u)
words_compared_follow g w p q st s m d0 m0 k v u code f row leads x =
    let y = row m (two_there st p k d0 m0 v u s m x) in
    let rest : List ℕ = take (length m.stack - 2) m.stack ++ [] in
    let top = kept_top (d0.top + k) d0 m0.stack s.now m.stack x.kept in
    let long = matched_length st s.now m k 2 d0.top x.matches top in
    let none : k + 0 ≡ k = omega arith in
    let matches : Matches st s.now rest (outer m) k = subst (λ (j : ℕ). Matches st s.now rest (outer m) j) none (yields_matched st s.now m k 2 [] x.matches) in (
      landed q y.words.left,
      becomes_goes g w (on p) q (doing g.segments (i.Pair (op code) (op 0)) q) st s.begun s m (k + 2) (operated code m) rest (outer m) y.words leads refl x.at refl
          x.matches refl,
      record {
        at = refl;
        matches = becomes_matches st s.now k (operated code m) rest (outer m) y.words matches;
        kept = subst (λ (xs : List ℕ). Kept (d0.top + k) d0 m0.stack s.now xs) (sym y.words.words)
            (yields_kept (d0.top + k) d0 m0.stack s.now m.stack [] 2 x.kept long);
        coded = subst (λ c. Coded c y.words.left.regs.code) (sym x.silent) tt;
      },
      y.code ∙ ap (λ (a : ℕ). f a (word 0 m)) (lower_is st p k d0 m0 v u s m x) ∙ ap (λ (a : ℕ). f v a) (upper_is st p k d0 m0 v u s m x),
    )

-- ---- relations as tests

-- A comparison and then BCC, behind two words: the test is that of the relation's answer.
relation_follows : (g : Ground) (w : Rate) (p r q to : Spot) (st : Setting) (s : State) (m : Machine) (d0 : Data) (m0 : Machine) (k v u code n : ℕ)
    (f : ℕ → ℕ → Code) → CompareBy code f → Leads g (on p) r (doing g.segments (i.Pair (op code) (op 0)) r)
    → Leads g (on r) q (turning (i.OnCode (failing_codes n) false 0) to q) → IsValue st p 2 k d0 m0 (v ∷ u ∷ []) s m
    → Follows g w (pos q - pos p) 0 w.reach (tally s) m (Tested st q to k d0 m0) NoExit (relation_done n (f v u) s)
relation_follows g w p r q to st s m d0 m0 k v u code n f row leads branch x =
    let first = words_compared_follow g w p r st s m d0 m0 k v u code f row leads x in
    let second = code_branches g w r q to (failing_codes n) false 0 k st s first.0 d0 m0 branch first.2 in
    let one = leads.rise in
    let two = branch.rise in
    let there : (if is_named (failing_codes n) first.0.regs.code then to else q) ≡ (if is_odd (truth_word (related n (f v u))) then q else to) =
    ap (λ (c : Code). if is_named (failing_codes n) c then to else q) first.3 ∙ fails_where n (f v u) to q in
    then_follows g w (pos r - pos p) 0 w.reach (pos q - pos r) 0 w.reach (pos q - pos p) 0 w.reach (tally s) m (tally s) first.0 (Tested st q to k d0 m0) NoExit
    (relation_done n (f v u) s) first.1
    (second.0, second.1, (subst (λ (y : Spot). Arrives st y k d0 m0 s second.0) there second.2, x.silent))
    (omega (arith, one, two)) (omega arith) (omega arith)

-- by the lists of the operands' words, of which there is one each
by_lists : (g : Ground) (w : Rate) (p r q to : Spot) (st : Setting) (s : State) (m : Machine) (d0 : Data) (m0 : Machine) (k code n : ℕ) (f : ℕ → ℕ → Code)
    (last : List ℕ → List ℕ → State → Outcome (List ℕ)) → ((v u : ℕ) (t : State) → last (v ∷ []) (u ∷ []) t ≡ relation_done n (f v u) t) → CompareBy code f
    → Leads g (on p) r (doing g.segments (i.Pair (op code) (op 0)) r) → Leads g (on r) q (turning (i.OnCode (failing_codes n) false 0) to q)
    → (vs us : List ℕ) → length vs ≡ 1 → length us ≡ 1 → IsValue st p 2 k d0 m0 (vs ++ us) s m
    → Follows g w (pos q - pos p) 0 w.reach (tally s) m (Tested st q to k d0 m0) NoExit (last vs us s)
by_lists g w p r q to st s m d0 m0 k code n f last is row leads branch (v ∷ []) (u ∷ []) one two x =
    subst (λ (o : Outcome (List ℕ)). Follows g w (pos q - pos p) 0 w.reach (tally s) m (Tested st q to k d0 m0) NoExit o) (sym (is v u s))
    (relation_follows g w p r q to st s m d0 m0 k v u code n f row leads branch x)
by_lists g w p r q to st s m d0 m0 k code n f last is row leads branch [] us one two x = absurd (omega (arith, one))
by_lists g w p r q to st s m d0 m0 k code n f last is row leads branch (v ∷ v' ∷ vs) us one two x = absurd (omega (arith, one))
by_lists g w p r q to st s m d0 m0 k code n f last is row leads branch (v ∷ []) [] one two x = absurd (omega (arith, two))
by_lists g w p r q to st s m d0 m0 k code n f last is row leads branch (v ∷ []) (u ∷ u' ∷ us) one two x = absurd (omega (arith, two))

-- two operands, the comparison and the branch
comparison_tests : (z : Surroundings) (d k need more code n fail : ℕ) (f : ℕ → ℕ → Code) (a b : Part) (first other : State → Outcome (List ℕ))
    (last : List ℕ → List ℕ → State → Outcome (List ℕ)) → ((v u : ℕ) (t : State) → last (v ∷ []) (u ∷ []) t ≡ relation_done n (f v u) t) → CompareBy code f
    → IsWhole a → IsWhole b → Simulates z d as_value 1 k need a first → Simulates z d as_value 1 (k + 1) more b other → more + 1 ≤ need
    → Simulates z d (as_test fail) 1 k need (a ⨟ b ⨟ pieces (Do (i.Pair (op code) (op 0)) ∷ []) ⨟ made.related n fail)
    (λ s. then_go (first s) (λ vs t. then_go (other t) (λ us u. last vs us u)))
comparison_tests z d k need more code n fail f a b first other last is row wa wb sa sb enough = record {
  does = λ h ws p q s l m stands front ready.
      let x = a h ws in
      let y = b (h + x.marks) x.wants in
      let compare = Do (i.Pair (op code) (op 0)) ∷ [] in
      let both = closed_last x.pieces y.pieces (wb.closed (h + x.marks) x.wants) in
      let branch = stand_in_order z.ground z.sites (x.pieces ++ y.pieces ++ compare) (BCC (failing_codes n) fail ∷ []) p q
      (closed_last (x.pieces ++ y.pieces) compare refl) stands in
      let compared = stand_in_order z.ground z.sites (x.pieces ++ y.pieces) compare p branch.0 both branch.1 in
      let cut = stand_in_order z.ground z.sites x.pieces y.pieces p compared.0 (wa.closed h ws) compared.1 in
      let room : 1 + more ≤ need = omega (arith, enough) in
      let far = compared.4 in
      let far' = branch.4 in
      operands_follow z.ground z.rate z.setting z.sites.marks p cut.0 compared.0 q k s l m (Tested z.setting q (z.sites.marks fail) k s.now m) (first s) other last
      cut.3 cut.4 (omega (arith, far, far'))
      (sa.does h ws p cut.0 s l m cut.1 (front_on x.wants y.wants z.wants (wb.keeps (h + x.marks) x.wants) front) ready)
      (λ vs s1 m1 v fewer. sb.does (h + x.marks) x.wants (on cut.0) compared.0 s1 s1.begun m1 cut.2 front
      (value_ready z.setting d p cut.0 k need 1 more s l m vs s1 m1 ready v fewer room))
      (λ vs us s2 m2 one two v. by_lists z.ground z.rate compared.0 branch.0 q (z.sites.marks fail) z.setting s2 m2 s.now m k code n f last is row
      (last_leads z.ground z.sites (on compared.0) (i.Pair (op code) (op 0)) branch.0 compared.2)
      (branch_leads z.ground z.sites (on branch.0) (i.OnCode (failing_codes n) false 0) fail q branch.2) vs us one two v);
}

-- ---- relations

-- what a relation of one class answers
integers_related : (o v u : ℕ) (s : State) → is_relation o ≡ true
    → by_class integers o (v ∷ []) (u ∷ []) s ≡ relation_done (relation_number o) (words_compared v u) s
integers_related o v u s e = rw e refl

logicals_related : (o v u : ℕ) (s : State) → is_relation o ≡ true
    → by_class logicals o (v ∷ []) (u ∷ []) s ≡ relation_done (relation_number o) (logically_compared v u) s
logicals_related o v u s e = rw e refl

-- a relation answers, whatever its operands are
class_answers : (class : Class) (o : ℕ) → is_relation o ≡ true → is_word_class class ≡ true → (vs us : List ℕ) (s : State) → Answers (by_class class o vs us s)
class_answers integers o e one (v ∷ []) (u ∷ []) s =
    subst (λ (x : Outcome (List ℕ)). Answers x) (sym (integers_related o v u s e)) (related (relation_number o) (words_compared v u), refl)
class_answers integers o e one [] us s = tt
class_answers integers o e one (v ∷ []) [] s = tt
class_answers integers o e one (v ∷ []) (u ∷ u' ∷ us) s = tt
class_answers integers o e one (v ∷ v' ∷ vs) us s = tt
class_answers logicals o e one (v ∷ []) (u ∷ []) s =
    subst (λ (x : Outcome (List ℕ)). Answers x) (sym (logicals_related o v u s e)) (related (relation_number o) (logically_compared v u), refl)
class_answers logicals o e one [] us s = tt
class_answers logicals o e one (v ∷ []) [] s = tt
class_answers logicals o e one (v ∷ []) (u ∷ u' ∷ us) s = tt
class_answers logicals o e one (v ∷ v' ∷ vs) us s = tt
class_answers doubles o e one vs us s = absurd (false≢true one)
class_answers mixed o e one vs us s = absurd (false≢true one)

-- CMP and LCMP
relation_tests : (z : Surroundings) (d k need more o fail : ℕ) (class : Class) (a b : Part) (first other : State → Outcome (List ℕ)) → is_relation o ≡ true
    → is_word_class class ≡ true → IsWhole a → IsWhole b → Simulates z d as_value 1 k need a first → Simulates z d as_value 1 (k + 1) more b other
    → more + 1 ≤ need
    → Simulates z d (as_test fail) 1 k need (a ⨟ b ⨟ pieces (comparison class) ⨟ made.related (relation_number o) fail)
    (λ s. then_go (first s) (λ vs t. then_go (other t) (λ us u. by_class class o vs us u)))
relation_tests z d k need more o fail integers a b first other e one wa wb sa sb enough =
    comparison_tests z d k need more 0o17 (relation_number o) fail words_compared a b first other (λ vs us u. by_class integers o vs us u)
    (λ v u t. integers_related o v u t e) rows.compare wa wb sa sb enough
relation_tests z d k need more o fail logicals a b first other e one wa wb sa sb enough =
    comparison_tests z d k need more 0o60 (relation_number o) fail logically_compared a b first other (λ vs us u. by_class logicals o vs us u)
    (λ v u t. logicals_related o v u t e) rows.logical_compare wa wb sa sb enough
relation_tests z d k need more o fail doubles a b first other e one wa wb sa sb enough = absurd (false≢true one)
relation_tests z d k need more o fail mixed a b first other e one wa wb sa sb enough = absurd (false≢true one)

-- its code is whole, since the branch closes it
relation_whole : (n fail : ℕ) (class : Class) (operands : Part) → is_word_class class ≡ true → IsWhole operands
    → IsWhole (operands ⨟ pieces (comparison class) ⨟ made.related n fail)
relation_whole n fail integers operands one x =
    whole_behind (operands ⨟ pieces (comparison integers)) (BCC (failing_codes n) fail ∷ []) (whole_behind operands (comparison integers) x refl) refl
relation_whole n fail logicals operands one x =
    whole_behind (operands ⨟ pieces (comparison logicals)) (BCC (failing_codes n) fail ∷ []) (whole_behind operands (comparison logicals) x refl) refl
relation_whole n fail doubles operands one x = absurd (false≢true one)
relation_whole n fail mixed operands one x = absurd (false≢true one)

-- whatever is wanted of it
pub compared_whole : (n : ℕ) (class : Class) (aim : Aim) (operands : Part) → is_word_class class ≡ true → IsWhole operands
    → IsWhole (made.compared n class aim operands)
compared_whole n class aim operands one x =
    condition_whole aim (λ fail. operands ⨟ pieces (comparison class) ⨟ made.related n fail) (λ fail. relation_whole n fail class operands one x)

pub relations : RelationsSimulate
relations z d k need more o class aim a b first other e one wa wb sa sb enough =
    conditions z d k need aim (λ fail. a ⨟ b ⨟ pieces (comparison class) ⨟ made.related (relation_number o) fail)
    (λ s. then_go (first s) (λ vs t. then_go (other t) (λ us u. by_class class o vs us u))) (omega (arith, enough))
    (λ fail. relation_whole (relation_number o) fail class (a ⨟ b) one (whole_then a b wa wb))
    (λ s. answers_then (first s) (λ vs t. then_go (other t) (λ us u. by_class class o vs us u)) (λ vs t. answers_then (other t) (λ us u. by_class class o vs us u) (λ us u. class_answers class o e one vs us u)))
    (λ fail. relation_tests z d k need more o fail class a b first other e one wa wb sa sb enough)
