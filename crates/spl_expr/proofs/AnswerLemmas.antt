-- What the readings of expressions and conditions say of the tokens, by their places.
use Rattle.std.proofs.Common.{ℕ, zero, suc, ◌≡◌, ◌+◌, ◌-◌, ◌<◌, ◌≤◌, Bool, List, [], ◌∷◌, length, drop, take, map, Result, Ok, Err, refl, arith, ap, ◌∙◌}
use Rattle.std.proofs.lemmas.List.{length-drop, length-map, take_all}
use Rattle.spl_tree.specs.declared.tokens.Token.{Token}
use Rattle.spl_tree.specs.declared.expressions.Expr.{Expr}
use Rattle.spl_tree.specs.Symbols.{Lexeme, lexeme_of}
use Rattle.spl_tree.specs.OpenExpressions.{limit}
use Rattle.spl_tree.specs.Trees.{Tree}
use Rattle.spl_tree.specs.Views as view
use Rattle.spl_within.specs.spl_reading.Readers.{Outcome, Got, Bad, Deep}
use Rattle.spl_verdicts.specs.spl_grammar.Ends.{Ended, last, before}
use Rattle.spl_verdicts.proofs.spl_grammar_proofs.LocalReaders.{Left, entire, cut, left_then, end_of}
use Rattle.spl_verdicts.specs.PartVerdicts.{Verdict, spelled, refused, too_deep, read}
use Rattle.spl_verdicts.proofs.PartChains.{left_shorter}
use Rattle.spl_verdicts.proofs.PartVerdictLaws.{local, verdict_exact, one_verdict}
use Rattle.spl_tokens.specs.declared.faults.Fault.{Fault}
use Rattle.spl_tokens.specs.declared.faults.Fault.TheVariants as fault
use Rattle.spl_tokens.specs.Reads.{Reads}
use Rattle.spl_tokens.specs.declared.faults.ParseFault.{ParseFault}
use Rattle.spl_tokens.specs.declared.faults.ParseFault.TheVariants.{Syntax, TooDeep}
use Rattle.spl_expr.specs.Answers.{Answers, Exact, answer_at}

-- Places.

-- what is left stands at its place
left_at : {us ts : List Lexeme} → Left us ts → us ≡ drop (length ts - length us) ts
left_at {us = us} entire = let e : length us - length us ≡ 0 = omega arith in rw e refl
left_at {us = us} (cut {t = t} {ts = ts} a) = let b = left_shorter a in
    let e : length (t ∷ ts) - length us ≡ suc (length ts - length us) = omega arith in rw e (left_at a)

left_drop : (n : ℕ) (ts : List Lexeme) → Left (drop n ts) ts
left_drop zero ts = entire
left_drop (suc n) [] = entire
left_drop (suc n) (t ∷ ts) = cut (left_drop n ts)

-- a verdict is told at some token
told_long : {c : Bool} {d : ℕ} {ts : List Lexeme} {o : Outcome Tree} → Verdict c d ts o → 0 < length (end_of o)
told_long (spelled v a n) = omega arith
told_long (refused o a w n) = omega arith
told_long (too_deep front e o l a) = omega arith

-- where reading stops, behind the place where it begins
record Stopped (tokens us : List Lexeme) (from : ℕ) : Type 0 where
  at : us ≡ drop (length tokens - length us) tokens
  behind : from ≤ length tokens - length us
  inside : length tokens - length us < length tokens

stopped : (tokens us : List Lexeme) (from : ℕ) → from ≤ length tokens → Left us (drop from tokens) → 0 < length us
    → Stopped tokens us from
stopped tokens us from f l z = let m = left_then l (left_drop from tokens) in let n = left_shorter l in
    let w = left_shorter m in let g = length-drop from tokens in
    record { at = left_at m; behind = omega arith; inside = omega arith }

-- Answers.

module _ (c : Bool) (tokens us : List Lexeme) (from depth room : ℕ) (f : from ≤ length tokens) (sum : depth + room
    ≡ limit)
    (e : Ended (drop from tokens)) where
  -- the verdict that an answer is, and its place
  told : (o : Outcome Tree) → read c room (drop from tokens) ≡ o → end_of o ≡ us
      → Verdict c depth (drop from tokens) o × Stopped tokens us from
  told o q p = let v = (verdict_exact room o sum e).0 q in
      (v, stopped tokens us from f (rw (← p, ← q) ((local c room).left (drop from tokens))) (rw (← p) (told_long v)))

  -- a part that was read
  pub read_at : (x : Expr) → read c room (drop from tokens) ≡ Got (view.expression x) us
      → Answers c tokens from depth (Ok (x, length tokens - length us))
      × Exact c tokens from depth (Ok (x, length tokens - length us))
  read_at x q = let v = told (Got (view.expression x) us) q refl in let s = v.1 in
      ((s.behind, s.inside, rw (← s.at) v.0), λ o w. one_verdict w v.0 ∙ ap (λ us. Got (view.expression x) us) s.at)

  -- a token that no part goes on with
  pub refused_at : read c room (drop from tokens) ≡ Bad us
      → Answers c tokens from depth (Err (Syntax (length tokens - length us)))
      × Exact c tokens from depth (Err (Syntax (length tokens - length us)))
  refused_at q = let v = told (Bad us) q refl in let s = v.1 in
      ((s.behind, s.inside, rw (← s.at) v.0), λ o w. one_verdict w v.0 ∙ ap (λ us. Bad us) s.at)

  -- a token with which too much is open
  pub sunk_at : read c room (drop from tokens) ≡ Deep us
      → Answers c tokens from depth (Err (TooDeep (length tokens - length us)))
      × Exact c tokens from depth (Err (TooDeep (length tokens - length us)))
  sunk_at q = let v = told (Deep us) q refl in let s = v.1 in
      ((s.behind, s.inside, rw (← s.at) v.0), λ o w. one_verdict w v.0 ∙ ap (λ us. Deep us) s.at)

  -- whichever it is
  pub answered : (r : Result Expr Fault) → Reads view.expression (read c room (drop from tokens)) r us
      → Answers c tokens from depth (answer_at r (length tokens - length us))
      × Exact c tokens from depth (answer_at r (length tokens - length us))
  answered (Ok x) h = read_at x h
  answered (Err fault.Syntax) h = refused_at h
  answered (Err fault.TooDeep) h = sunk_at h
  answered (Err fault.NoMemory) h = (tt, λ o w. tt)

-- a list that ends, from some token on
pub ended_drop : (n : ℕ) (ts : List Lexeme) → n < length ts → Ended ts → Ended (drop n ts)
ended_drop zero ts h e = e
ended_drop (suc n) [] h e = elim h [ ]
ended_drop (suc n) (t ∷ ts) h (last i) = absurd (omega arith)
ended_drop (suc n) (t ∷ ts) h (before i e) = ended_drop n ts (omega arith) e

-- tokens from some place on, as the grammar sees them
pub lexemes_drop : (n : ℕ) (ts : List Token) → map lexeme_of (drop n ts) ≡ drop n (map lexeme_of ts)
lexemes_drop zero ts = refl
lexemes_drop (suc n) [] = refl
lexemes_drop (suc n) (t ∷ ts) = lexemes_drop n ts

-- the tokens that a cursor begins with
begun : (items slice : List Token) (cursor : List Lexeme) (from : ℕ) → slice ≡ items
    → cursor ≡ map lexeme_of (take (length slice - from) (drop from slice)) → cursor ≡ drop from (map lexeme_of items)
begun items slice cursor from s e = let l = length-drop from slice in
    e ∙ ap (λ ts. map lexeme_of ts) (take_all (length slice - from) (drop from slice) (omega arith))
    ∙ lexemes_drop from slice
    ∙ ap (λ ts. drop from (map lexeme_of ts)) s

-- a call, from its cursor to its answer
pub finished : (c : Bool) (items slice : List Token) (cursor us : List Lexeme)
    (from depth count left at : ℕ) (r : Result Expr Fault) (result : Result (Expr × ℕ) ParseFault)
    → from < length items → depth ≤ 64 → Ended (map lexeme_of items) → slice ≡ items
    → cursor ≡ map lexeme_of (take (length slice - from) (drop from slice))
    → Reads view.expression (read c (64 - depth) cursor) r us → count ≡ length items → left ≡ length us
    → at ≡ count - left
    → result ≡ answer_at r at
    → Answers c (map lexeme_of items) from depth result × Exact c (map lexeme_of items) from depth result
finished c items slice cursor us from depth count left at r result f d e s b h n l p q =
    let m = length-map items lexeme_of in
    let z : at ≡ length (map lexeme_of items) - length us = omega arith in
    rw (q, z) (answered c (map lexeme_of items) us from depth (64 - depth) (omega arith) (omega arith)
    (ended_drop from (map lexeme_of items) (omega arith) e) r (rw (begun items slice cursor from s b) at h))
