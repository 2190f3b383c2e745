-- What is read as an expression or a condition is spelled; a fault comes behind tokens that open it, with the nesting.
use Rattle.std.proofs.Common.{ℕ, zero, suc, ◌+◌, ◌/◌, ◌≡◌, ◌==◌, ◌&&◌, not, ◌<◌, ◌≤◌, Bool, true, false, if◌then◌else◌, List, [], ◌∷◌, length, Option, Some, None, refl, arith, ap, ◌∙◌, nat_lt, nat_le}
use Rattle.std.proofs.lemmas.Bool.Decides.{nat_tests}
use Rattle.spl_reading.specs.spl_tree.declared.names_and_places.At.{At}
use Rattle.spl_reading.specs.spl_tree.declared.symbols.Symbol.TheVariants as s
use Rattle.spl_reading.specs.spl_tree.Symbols.{Lexeme, Is}
use Rattle.spl_reading.specs.spl_tree.Operators.{comparison, other, compared, binds, is_sign, is_number, shift_of}
use Rattle.spl_reading.specs.spl_tree.Expressions as g
use Rattle.spl_reading.specs.spl_tree.OpenExpressions as op
use Rattle.spl_reading.specs.spl_tree.OpenExpressions.{Part, Step, Opens, here, inner, OpensAt, limit, nesting}
use Rattle.spl_reading.specs.spl_tree.Trees as tree
use Rattle.spl_grammar.proofs.PartTokens as pt
use Rattle.spl_reading.specs.Readers.{Bad, Parser, and_then, followed, ◌>>=◌, by_symbol, pure, refuse, take, at_place, repeat, turns, same_symbol, named_number, numbered}
use Rattle.spl_reading.specs.ReadExpressions.{Found, is, operator_of, constant, is_comparison, counted, signed_by_next, first, join, shifted, bytes, turn_by, turn, level, whole, unary, expression, within, condition}
pub use Rattle.spl_grammar.specs.Answers.{SpelledCondition}
use Rattle.spl_reading.proofs.SameSymbol.{same_is, both_true, same_number}
use Rattle.spl_grammar.proofs.ExplainReaders.{Explains, bad, stepped, at_here, explain_then, explain_expect, explain_next, explain_pure, explain_symbol, explain_if, recast}
use Rattle.spl_grammar.proofs.SoundOperands.{Spelled, constant_explained, unary_step_explained, explain_enter, explain_opening, too_many, is_it, one_more, few_more, constant_at}
pub use Rattle.spl_grammar.proofs.LevelFacts.{level_at, LevelGot, Front, front_below, no_level, operator_is, sign_is, comparison_is, two_tests, comparison_below, below_three, sum_above, comma_step, count_step, close_step, whole_bytes, form_at, all_true, begins_is, LoopGot, TurnGot, free, minus}

-- The readers of the levels, where d constructs are open around the expression.
module _ (most : ℕ) (u : ℕ → Option At → Parser Found) (count : ℕ → Parser tree.Tree) (room : ℕ) (c : Bool)
    (taken d : ℕ) (sum : d + room ≡ most + taken)
    (operand : (f : Option At) (k j : ℕ) (ts : List Lexeme) → j + room ≡ most + k → k ≤ room
    → Explains most (λ r rest. g.Unary f r.form r.tree ts rest) (op.unary f) j 0 ts (u k f ts))
    (bytes_count : (k j : ℕ) (ts : List Lexeme) → c ≡ true → j + room ≡ most + k → nat_lt k room ≡ true
    → Explains most (λ e rest. Spelled e ts rest) (op.level false None 10) (suc j) 0 ts (count k ts)) where
  -- what is claimed of a level
  abbrev pub LevelExplained : ℕ → (ℕ → Option At → Parser Found) → Type 0
  LevelExplained h below = (f : Option At) (n : ℕ) (ts : List Lexeme) → Front f h → taken + n / 8 ≤ room
      → Explains most (LevelGot room taken c f h n ts) (op.level c f h) d n ts (below n f ts)

  fits_nesting : (n : ℕ) → taken + n / 8 ≤ room → nesting d n ≤ most
  fits_nesting n l = omega arith

  state_fits : (n own count : ℕ) → count ≡ n + own → taken + count / 8 ≤ room → nesting d (n + own) ≤ most
  state_fits n own count e l = rw (← e) (omega arith)

  -- what is read behind a sign
  signed_explained : (h : ℕ) (below : ℕ → Option At → Parser Found) → LevelExplained h below
      → (n : ℕ) (t v : Lexeme) (us : List Lexeme) → taken + n / 8 ≤ room → (suc h == 3) ≡ true
      → is_sign (operator_of t.symbol) ≡ true
      → Explains most (LoopGot room taken c None h n (t ∷ v ∷ us)) (op.level c None (suc h)) d n (t ∷ v ∷ us)
      (signed_by_next u count room c taken below n t v.symbol (v ∷ us))
  unfolding signed_by_next
  signed_explained h below b n t v us l e j = explain_if ((operator_of t.symbol == 12) && is_number v.symbol) _ _
      (v ∷ us)
      (λ x. let y = both_true (operator_of t.symbol == 12) (is_number v.symbol) x in
      explain_then (below n (Some t.at)) _ (op.negative e (minus_is y.0))
      (b (Some t.at) n (v ∷ us) (minus (below_three h e)) l)
      (λ r rest w. explain_pure _ rest (record {
        state = record {
          own = w.own;
          counts = w.counts;
          fits = w.fits;
          spelled = g.Level.negative e (minus_is y.0)
              w.spelled;
        };
        relation = λ k. two_tests h 3 4 e k refl;
      })))
      (λ x. explain_then (below n None) _ (op.signed e (sign_is t.symbol j) j x) (b None n (v ∷ us) free l)
      (λ r rest w. explain_pure _ rest (record {
        state = record {
          own = w.own;
          counts = w.counts;
          fits = w.fits;
          spelled = g.Level.signed e (sign_is t.symbol j)
              j x w.spelled;
        };
        relation = λ k. two_tests h 3 4 e k refl;
      })))
    where
      minus_is : (operator_of t.symbol == 12) ≡ true → Is (s.Operator 12) t
      minus_is x = sign_is t.symbol j ∙ ap s.Operator (same_number _ _ x)

  sum_explained : (h : ℕ) (below : ℕ → Option At → Parser Found) → LevelExplained h below → (n : ℕ) (ts : List Lexeme)
      → taken + n / 8 ≤ room → (suc h == 3) ≡ true
      → Explains most (LoopGot room taken c None h n ts) (op.level c None (suc h)) d n ts
      (by_symbol (λ k. if is_sign (operator_of k) then
      (take >>= λ t. by_symbol (signed_by_next u count room c taken below n t)) else below n None) ts)
  unfolding by_symbol followed take and_then
  sum_explained h below b n [] l e = bad (at_here _ _ _ _) (fits_nesting n l)
  sum_explained h below b n (t ∷ []) l e = explain_if (is_sign (operator_of t.symbol)) _ _ (t ∷ [])
      (λ j. bad (stepped (op.signed e (sign_is t.symbol j) j refl) (at_here (op.level c None h) d n []))
      (fits_nesting n l))
      (λ j. recast (op.unsigned e) (below n None (t ∷ [])) (b None n (t ∷ []) free l) (λ r rest v. record {
        state = record { own = v.own; counts = v.counts; fits = v.fits; spelled = g.Level.unsigned e v.spelled };
        relation = λ k. two_tests h 3 4 e k refl;
      }))
  sum_explained h below b n (t ∷ v ∷ us) l e = explain_if (is_sign (operator_of t.symbol)) _ _ (t ∷ v ∷ us)
      (λ j. signed_explained h below b n t v us l e j)
      (λ j. recast (op.unsigned e) (below n None (t ∷ v ∷ us)) (b None n (t ∷ v ∷ us) free l) (λ r rest v. record {
        state = record { own = v.own; counts = v.counts; fits = v.fits; spelled = g.Level.unsigned e v.spelled };
        relation = λ k. two_tests h 3 4 e k refl;
      }))

  -- the first part of a level
  first_explained : (h : ℕ) (below : ℕ → Option At → Parser Found) → LevelExplained h below
      → (f : Option At) (n : ℕ) (ts : List Lexeme) → Front f (suc h) → taken + n / 8 ≤ room
      → Explains most (LoopGot room taken c f h n ts) (op.level c f (suc h)) d n ts
      (first u count room c taken below h n f ts)
  unfolding first
  first_explained h below b f n ts w l = go f w (suc h == 3) refl
    where
      up : (f : Option At) → (suc h == 3) ≡ false → (r : Found) (rest : List Lexeme)
          → LevelGot room taken c f h n ts r rest → LoopGot room taken c f h n ts r rest
      up f e r rest v = record {
        state = record
            { own = v.own; counts = v.counts; fits = v.fits; spelled = g.Level.up e v.spelled };
        relation = λ _.
            v.spelled;
      }

      go : (f : Option At) → Front f (suc h) → (t : Bool) → (suc h == 3) ≡ t
          → Explains most (LoopGot room taken c f h n ts) (op.level c f (suc h)) d n ts ((if t
          then by_symbol (λ k. if is_sign (operator_of k) then
          (take >>= λ t. by_symbol (signed_by_next u count room c taken below n t)) else below n None)
          else below n f) ts)
      go f w false e = recast (op.below e) (below n f ts) (b f n ts (front_below w) l) (up f e)
      go None w true e = sum_explained h below b n ts l e
      go (Some at) (minus m) true e = absurd (sum_above h e m)

  -- an operator and its right operand
  join_explained : (h : ℕ) (below : ℕ → Option At → Parser Found) → LevelExplained h below
      → (f : Option At) (n : ℕ) (ts : List Lexeme) (r : Found) (t : Lexeme) (us : List Lexeme)
      → LoopGot room taken c f h n ts r (t ∷ us) → (binds (operator_of t.symbol) == suc h) ≡ true
      → Explains most (TurnGot room taken c f h n ts (t ∷ us)) (op.level c f (suc h)) d n ts
      (join u count room c taken below h (g.start f ts) r (t ∷ us))
  unfolding join counted
  join_explained h below b f n ts r t us x e = explain_enter (nat_le (taken + suc r.count / 8) room) _ t us
      (λ ok. explain_then {V = LevelGot room taken c None h (suc (n + x.state.own)) us} (below (suc r.count) None) _
      (step (suc h == 4) refl)
      (rw x.state.counts (b None (suc (n + x.state.own)) us free (rw (← x.state.counts) (less_equal _ _ ok))))
      (λ v rest w. explain_pure _ rest (joins v rest w (suc h == 4) refl)))
      (λ no. too_many (step (suc h == 4) refl) (rw (← x.state.counts) (let m = greater _ _ no in omega arith)))
    where
      less_equal : (a b : ℕ) → nat_le a b ≡ true → a ≤ b
      less_equal a b e = grind (arith, nat_tests, e)

      greater : (a b : ℕ) → nat_le a b ≡ false → b < a
      greater a b e = grind (arith, nat_tests, e)

      i : Is (s.Operator (operator_of t.symbol)) t
      i = operator_is t.symbol h e

      step : (q : Bool) → (suc h == 4) ≡ q
          → Step (op.level c f (suc h)) d n ts (op.level c None h) d (suc (n + x.state.own)) us
      step false q = op.right q x.state.spelled i e
      step true q = op.right_of_relation q (x.relation q) i e

      joins : (v : Found) (rest : List Lexeme) (w : LevelGot room taken c None h (suc (n + x.state.own)) us v rest)
          (q : Bool) → (suc h == 4) ≡ q
          → TurnGot room taken c f h n ts (t ∷ us) (
            not q,
            record {
              count = v.count;
              form = if q then compared r.form v.form else other;
              tree = tree.Tree.binary (operator_of t.symbol) r.tree v.tree (g.start f ts);
            },
          ) rest
      joins v rest w false q = record {
        state = record {
          own = suc (x.state.own + w.own);
          counts = let k = w.counts in omega arith;
          fits = w.fits;
          spelled = g.Level.joined q x.state.spelled i e w.spelled;
        };
        relation = λ _ z. cc;
        less = λ _. let k = pt.shorter w.spelled in omega arith;
      }
      joins v rest w true q = record {
        state = record {
          own = suc (x.state.own + w.own);
          counts = let k = w.counts in omega arith;
          fits = w.fits;
          spelled = g.Level.related q (x.relation q) i e w.spelled refl;
        };
        relation = λ z. cc;
        less = λ z. cc;
      }

  -- the number of a shift, by its name
  shift_explained : {B : Type 0} {W : B → List Lexeme → Type 0} {part : Part} {j n : ℕ} {ts : List Lexeme}
      (f : ℕ → Parser B) (us : List Lexeme) (o : OpensAt part j n ts us)
      → nesting o.constructs o.operators ≤ most
      → ((k : ℕ) (t : Lexeme) (rest : List Lexeme) → us ≡ t ∷ rest → Is s.Name t → shift_of t.letters ≡ Some k
      → Explains most W part j n ts (f k rest))
      → Explains most W part j n ts (followed (named_number shift_of) f us)
  unfolding followed named_number numbered and_then take pure refuse
  shift_explained f [] o l h = bad o l
  shift_explained {W = W} {part = part} {j = j} {n = n} {ts = ts} f (t ∷ us) o l h = go (same_symbol t.symbol s.Name)
      refl (shift_of t.letters) refl
    where
      go : (b : Bool) → same_symbol t.symbol s.Name ≡ b → (v : Option ℕ) → shift_of t.letters ≡ v
          → Explains most W part j n ts (and_then (if b then numbered v (t ∷ us) else Bad (t ∷ us)) f)
      go true e (Some k) q = h k t us refl (same_is t.symbol s.Name e) q
      go true e None q = bad o l
      go false e v q = bad o l

  -- a shift
  shifted_explained : (h : ℕ) (f : Option At) (n : ℕ) (ts : List Lexeme) (r : Found) (t : Lexeme) (us : List Lexeme)
      → LoopGot room taken c f h n ts r (t ∷ us) → (suc h == 1) ≡ true → Is s.Ampersand t
      → Explains most (TurnGot room taken c f h n ts (t ∷ us)) (op.level c f (suc h)) d n ts
      (shifted u count room c taken (g.start f ts) r (t ∷ us))
  unfolding shifted counted
  shifted_explained h f n ts r t us x e i = explain_enter (nat_le (taken + suc r.count / 8) room) _ t us
      (λ ok. let l : nesting d (suc (n + x.state.own)) ≤ most = rw (← x.state.counts) (fitting ok) in let p =
      x.state.spelled in
      shift_explained _ us (stepped (op.shift_mark e p i) (at_here op.mark d (suc (n + x.state.own)) us)) l
      (λ k w after_name q j y. let p1 = level_at (ap (λ vs. t ∷ vs) q) p in
      explain_expect s.Open _ after_name
      (stepped (op.shift_name e p1 i j y) (at_here op.mark d (suc (n + x.state.own)) after_name)) l
      (λ o after_open q2 j2.
      let p2 = level_at (ap (λ vs. t ∷ w ∷ vs) q2) p1 in
      explain_then constant _ (op.shift_count e p2 i j y j2)
      (constant_explained d (suc (n + x.state.own)) after_open l) (λ v after_count v1.
      explain_expect s.Close _ after_count
      (stepped (op.shift_close e p2 i j y j2 v1) (at_here op.mark d (suc (n + x.state.own)) after_count)) l
      (λ z rest q3 j3.
      explain_pure _ rest (record {
        state = record {
          own = suc x.state.own;
          counts = let m = x.state.counts in omega arith;
          fits = less_equal _ _
              ok;
          spelled = g.Level.shifted e p2 i j y j2 (constant_at q3 v1) j3;
        };
        relation = λ _ m. two_tests h 1 4 e m refl;
        less = λ _. shorter_behind q q2 q3 v1;
      }))))))
      (λ no. too_many (op.shift_mark e x.state.spelled i)
      (rw (← x.state.counts) (let m = greater _ _ no in omega arith)))
    where
      less_equal : (a b : ℕ) → nat_le a b ≡ true → a ≤ b
      less_equal a b e = grind (arith, nat_tests, e)

      greater : (a b : ℕ) → nat_le a b ≡ false → b < a
      greater a b e = grind (arith, nat_tests, e)

      fitting : nat_le (taken + suc r.count / 8) room ≡ true → nesting d (suc r.count) ≤ most
      fitting ok = let m = less_equal _ _ ok in omega arith

      shorter_behind : {w o z : Lexeme} {after_name after_open after_count rest : List Lexeme} {v : tree.Constant}
          → us ≡ w ∷ after_name → after_name ≡ o ∷ after_open
          → after_count ≡ z ∷ rest → g.Constant v after_open after_count → length rest < length (t ∷ us)
      shorter_behind q q2 q3 v = let a = ap length q in let b = ap length q2 in let j = ap length q3 in let m =
          pt.shorter_constant v in omega arith

  -- a comparison of bytes
  bytes_explained : (h : ℕ) (f : Option At) (n : ℕ) (ts : List Lexeme) (r : Found) (t : Lexeme) (us : List Lexeme)
      → LoopGot room taken c f h n ts r (t ∷ us) → c ≡ true → (suc h == 8) ≡ true → r.form ≡ comparison → Is s.Comma t
      → Explains most (TurnGot room taken c f h n ts (t ∷ us)) (op.level c f (suc h)) d n ts
      (bytes u count room c taken r (t ∷ us))
  unfolding bytes followed take and_then
  bytes_explained h f n ts r t us x ct e y i = explain_opening room (taken + r.count / 8) _ us
      (stepped (comma_step c ct e left i) (at_here op.mark d (n + x.state.own) us))
      (state_fits n x.state.own r.count x.state.counts x.state.fits)
      (λ o rest q j ok. let p = level_at (ap (λ vs. t ∷ vs) q) left in
      explain_then {V = λ v after. Spelled v rest after} (count (taken + r.count / 8)) _ (count_step c ct e p i j)
      (rw (← x.state.counts) (bytes_count (taken + r.count / 8) (d + r.count / 8) rest ct inside ok)) (λ v after v1.
      explain_expect s.Close _ after (stepped (close_step c ct e p i j v1.spelled)
      (at_here op.mark (suc (d + (n + x.state.own) / 8)) 0 after))
      (rw (← x.state.counts) (few_more (d + r.count / 8) room (taken + r.count / 8) inside ok)) (λ z final q3 k.
      explain_pure _ final (record {
        state = record {
          own = x.state.own;
          counts = x.state.counts;
          fits = x.state.fits;
          spelled = whole_bytes c ct e
              p i j (level_at q3 v1.spelled) k;
        };
        relation = λ _ m. two_tests h 8 4 e m refl;
        less = λ _. fewer q q3 v1;
      }))))
      (λ o rest q j no. too_many (count_step c ct e (level_at (ap (λ vs. t ∷ vs) q) left) i j)
      (rw (← x.state.counts) (one_more (d + r.count / 8) room (taken + r.count / 8) inside no)))
    where
      inside : d + r.count / 8 + room ≡ most + (taken + r.count / 8)
      inside = omega arith

      fewer : {o z : Lexeme} {rest after final : List Lexeme} {v : tree.Tree} → us ≡ o ∷ rest → after ≡ z ∷ final
          → Spelled v rest after → length final < length (t ∷ us)
      fewer q k v = let a = ap length q in let b = ap length k in let m = pt.shorter v.spelled in omega arith

      left : g.Level c f h x.state.own comparison r.tree ts (t ∷ us)
      left = form_at y (comparison_below x.state.spelled y e)

  -- one turn of a level
  turn_explained : (h : ℕ) (below : ℕ → Option At → Parser Found) → LevelExplained h below
      → (f : Option At) (n : ℕ) (ts : List Lexeme) (r : Found) (now : List Lexeme)
      → LoopGot room taken c f h n ts r now
      → Explains most (TurnGot room taken c f h n ts now) (op.level c f (suc h)) d n ts
      (turn u count room c taken below h (g.start f ts) r now)
  unfolding turn turn_by
  turn_explained h below b f n ts r now x = explain_symbol _ now
      (stepped (op.whole x.state.spelled) (at_here op.mark d (n + x.state.own) now))
      (state_fits n x.state.own r.count x.state.counts x.state.fits) (λ t us q. rw q (go t us (rw q at x)))
    where
      go : (t : Lexeme) (us : List Lexeme) → LoopGot room taken c f h n ts r (t ∷ us)
          → Explains most (TurnGot room taken c f h n ts (t ∷ us)) (op.level c f (suc h)) d n ts
          (turn_by u count room c taken below h (g.start f ts) r t.symbol (t ∷ us))
      go t us x = explain_if (binds (operator_of t.symbol) == suc h) _ _ (t ∷ us)
          (λ e. join_explained h below b f n ts r t us x e) (λ _.
          explain_if ((suc h == 1) && is s.Ampersand t.symbol) _ _ (t ∷ us)
          (λ e. let y = both_true _ _ e in shifted_explained h f n ts r t us x y.0 (is_it s.Ampersand t y.1)) (λ _.
          explain_if (c && (suc h == 8) && is s.Comma t.symbol && is_comparison r.form) _ _ (t ∷ us)
          (λ e. let y = all_true c (suc h == 8) (is s.Comma t.symbol) (is_comparison r.form) e in bytes_explained h f n
          ts r t us x y.0 y.1 (comparison_is r.form y.3) (is_it s.Comma t y.2)) (λ _.
          explain_pure _ (t ∷ us) (record { state = x.state; relation = λ z. cc; less = λ z. cc }))))

  -- the loop of a level
  loop_explained : (fuel h : ℕ) (below : ℕ → Option At → Parser Found) → LevelExplained h below
      → (f : Option At) (n : ℕ) (ts : List Lexeme) (r : Found) (now : List Lexeme)
      → length now < fuel → LoopGot room taken c f h n ts r now
      → Explains most (LevelGot room taken c f (suc h) n ts) (op.level c f (suc h)) d n ts
      (turns (turn u count room c taken below h (g.start f ts)) fuel r now)
  unfolding turns
  loop_explained zero h below b f n ts r now l x = absurd (omega arith)
  loop_explained (suc fuel) h below b f n ts r now l x = explain_next _ _ now (turn_explained h below b f n ts r now x)
      (λ v rest w.
      explain_if v.0 _ _ rest (λ e. let m = w.less e in loop_explained fuel h below b f n ts v.1 rest (omega arith)
      (record { state = w.state; relation = w.relation e }))
      (λ _. explain_pure v.1 rest w.state))

  -- a part of each level
  pub level_explained : (h : ℕ) → LevelExplained h (level u count room c taken h)
  unfolding level at_place followed and_then repeat
  level_explained zero f n ts w l = explain_then (u (taken + n / 8) f) _ op.operand
      (operand f (taken + n / 8) (d + n / 8) ts (omega arith) l)
      (λ r rest v. explain_pure _ rest
      (record { own = 0; counts = omega arith; fits = l; spelled = g.Level.operand v }))
  level_explained (suc h) f n [] w l = bad (at_here _ _ _ _) (fits_nesting n l)
  level_explained (suc h) f n (t ∷ us) w l = explain_next
      (first u count room c taken (level u count room c taken h) h n f) _ (t ∷ us)
      (first_explained h (level u count room c taken h) (level_explained h) f n (t ∷ us) w l)
      (λ r rest x. rw (begins_is f t us)
      (loop_explained (suc (length rest)) h (level u count room c taken h) (level_explained h) f n (t ∷ us) r rest
      (omega arith) x))

no_room : {A : Type 0} (taken : ℕ) → nat_lt taken 0 ≡ true → A
no_room taken e = absurd (grind (arith, nat_tests, e))

below_room : (room taken : ℕ) → nat_lt taken (suc room) ≡ true → taken ≤ room
below_room room taken e = grind (arith, nat_tests, e)

-- a whole expression, whose operands are explained
whole_explained : {most : ℕ} (u : ℕ → Option At → Parser Found) (room taken d : ℕ) (ts : List Lexeme)
    → ((f : Option At) (k j : ℕ) (ts : List Lexeme) → j + room ≡ most + k → k ≤ room
    → Explains most (λ r rest. g.Unary f r.form r.tree ts rest) (op.unary f) j 0 ts (u k f ts))
    → d + room ≡ most + taken → taken ≤ room
    → Explains most (λ e rest. Spelled e ts rest) (op.level false None 10) d 0 ts (whole u room taken ts)
unfolding whole
whole_explained {most = most} u room taken d ts b sum l = explain_next _ _ ts
    (level_explained most u (λ _. refuse) room false taken d sum b (λ k j us q. cc) 10 None 0 ts free (omega arith))
    (λ r rest v. explain_pure r.tree rest (record { operators = v.own; form = r.form; spelled = v.spelled }))

-- an operand, where d constructs are open around it
pub unary_explained : {most : ℕ} (room : ℕ) (f : Option At) (taken d : ℕ) (ts : List Lexeme) → d + room ≡ most + taken
    → taken ≤ room
    → Explains most (λ r rest. g.Unary f r.form r.tree ts rest) (op.unary f) d 0 ts (unary room taken f ts)
unfolding unary
unary_explained {most = most} zero f taken d ts sum l = unary_step_explained most d zero taken sum l refuse refuse
    (λ rest ok. no_room taken ok) (λ rest ok. no_room taken ok) f ts
unary_explained {most = most} (suc room) f taken d ts sum l = unary_step_explained most d (suc room) taken sum l
    (unary room taken None) (whole (unary room) room taken)
    (λ rest ok. unary_explained room None taken (suc d) rest (omega arith) (below_room room taken ok))
    (λ rest ok. whole_explained (unary room) room taken (suc d) rest (unary_explained room) (omega arith)
    (below_room room taken ok)) f ts

-- an expression
pub expression_explained : {most : ℕ} (room taken d : ℕ) (ts : List Lexeme) → d + room ≡ most + taken → taken ≤ room
    → Explains most (λ e rest. Spelled e ts rest) (op.level false None 10) d 0 ts (expression room taken ts)
unfolding expression
expression_explained room taken d ts sum l = whole_explained (unary room) room taken d ts (unary_explained room) sum l

pub within_explained : {most : ℕ} (room taken d : ℕ) (ts : List Lexeme) → d + room ≡ most + taken
    → nat_lt taken room ≡ true
    → Explains most (λ e rest. Spelled e ts rest) (op.level false None 10) (suc d) 0 ts (within room taken ts)
unfolding within
within_explained zero taken d ts sum ok = no_room taken ok
within_explained (suc room) taken d ts sum ok = expression_explained room taken (suc d) ts (omega arith)
    (below_room room taken ok)

-- a condition
pub condition_explained : {most : ℕ} (room taken d : ℕ) (ts : List Lexeme) → d + room ≡ most + taken → taken ≤ room
    → Explains most (λ e rest. SpelledCondition e ts rest) (op.level true None 10) d 0 ts (condition room taken ts)
unfolding condition
condition_explained {most = most} room taken d ts sum l = explain_next _ _ ts
    (level_explained most (unary room) (within room) room true taken d sum (unary_explained room)
    (λ k j us q s ok. within_explained room k j us s ok) 10 None 0 ts free (omega arith))
    (λ r rest v. explain_pure r.tree rest (record { operators = v.own; form = r.form; spelled = v.spelled }))
