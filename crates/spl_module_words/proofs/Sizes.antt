-- A module has at most as many words as the pieces of its code may have, each branch in its long form.
-- 1. words that stand for pieces are no more than these may have        (stood_count)
-- 2. the forms of branches come to rest after some rounds               (rest)
-- 3. so pieces that are too long however their marks lie may have that many words   (long_count)
use Rattle.std.proofs.Common.{◌≡◌, ◌<◌, ◌≤◌, ◌⊎◌, inl, inr, ℕ, zero, suc, ◌+◌, Bool, true, false, if◌then◌else◌, List, [], ◌∷◌, length, refl, sym, ap, subst, ◌∙◌, arith}
use Rattle.std.specs.Prelude.{◌==◌, slice_index}
use Rattle.std.proofs.lemmas.Bool.{cases_lt}
use Rattle.spl_formed_modules.specs.hp_instr.declared.instruction.Instr.{Instr}
use Rattle.spl_formed_modules.specs.hp_instr.declared.instruction.Instr.TheVariants as i
use Rattle.spl_formed_modules.specs.hp_instr.declared.instruction.Op.{Op}
use Rattle.spl_formed_modules.specs.spl_branch.declared.buffer.Code.{Code}
use Rattle.spl_formed_modules.specs.spl_branch.declared.modules.Module.{Module}
use Rattle.spl_formed_modules.specs.spl_branch.declared.pieces.Piece.{Piece}
use Rattle.spl_formed_modules.specs.spl_branch.declared.pieces.Piece.TheVariants.{Do, Literal, Place, Branch, Mark, Call, Begin}
use Rattle.spl_formed_modules.specs.spl_branch.declared.spots.Spot.{Spot}
use Rattle.spl_formed_modules.specs.spl_branch.declared.survey.Turn.{Turn}
use Rattle.spl_formed_modules.specs.spl_branch.declared.survey.Stand.{Stand}
use Rattle.spl_formed_modules.specs.spl_branch.Pieces.{InStep, most_words, count_of}
use Rattle.spl_formed_modules.specs.spl_branch.Branches.{more, is_far, branch_size}
use Rattle.spl_formed_modules.specs.spl_branch.Stands.{Sites, at_left, at_right, ahead, past_instr, after, Stands}
use Rattle.spl_formed_modules.specs.spl_branch.Rounds.{turns_of, rounds, longer_from, shifts_of, near, targets}
use Rattle.spl_formed_modules.specs.spl_branch.Modules.{sites, Finished, IsLong, Oversized}
use Rattle.spl_formed_modules.proofs.spl_branch_proofs.RoundLemmas.{near_longer, length-rounds, rounds_more}
use Rattle.spl_formed_modules.proofs.spl_branch_proofs.ChoiceLemmas.{stands_in, last_settled, last_end, round_counts}
use Rattle.spl_formed_modules.proofs.Laid.{no_entries, laid}
use Rattle.spl_formed_modules.proofs.Offsets.{stands_there}

-- ---- 1. words that stand for pieces

past_most : (by : Instr) (p : Spot) (next : Op) → (past_instr p by next).offset ≤ p.offset + 1
past_most (i.Pair left right) p next = go p.right (next.code == 0)
  where
    go : (r n : Bool) → (if r then at_left (p.offset + 1) else if n then at_left (p.offset + 1) else at_right p.offset).offset ≤ p.offset + 1
    go true n = omega arith
    go false true = omega arith
    go false false = omega arith
past_most (i.Shifted kind count) p next = omega arith
past_most (i.Short test back d) p next = omega arith
past_most (i.Immediate which n) p next = omega arith
past_most (i.Control which n) p next = omega arith
past_most (i.Memory major second x ind mode) p next = omega arith
past_most (i.LoadCode back d) p next = omega arith
past_most (i.Branch ind back d) p next = omega arith
past_most (i.OnCode mask back d) p next = omega arith
past_most (i.Loop modify back d) p next = omega arith
past_most (i.Illegal w) p next = omega arith

more_most : (by : Instr) → more by ≤ 3
more_most (i.Pair left right) = omega arith
more_most (i.Shifted kind count) = omega arith
more_most (i.Short test back d) = omega arith
more_most (i.Immediate which n) = omega arith
more_most (i.Control which n) = omega arith
more_most (i.Memory major second x ind mode) = omega arith
more_most (i.LoadCode back d) = omega arith
more_most (i.Branch ind back d) = omega arith
more_most (i.OnCode mask back d) = omega arith
more_most (i.Loop modify back d) = omega arith
more_most (i.Illegal w) = omega arith

size_most : (by : Instr) (p t : ℕ) → branch_size by p t ≤ 4
size_most by p t = go (is_far by p t) (more_most by)
  where
    go : (b : Bool) → more by ≤ 3 → (if b then 1 + more by else 1) ≤ 4
    go true le = omega (arith, le)
    go false le = omega arith

after_most : (x : Piece) (marks : ℕ → ℕ) (p : Spot) (next : Op) → (after marks p x next).offset ≤ p.offset + most_words x
after_most (Do by) marks p next = past_most by p next
after_most (Literal w) marks p next = omega arith
after_most (Place l) marks p next = omega arith
after_most (Branch by l) marks p next = let most = size_most by p.offset (marks l) in omega (arith, most)
after_most (Mark l) marks p next = omega arith
after_most (Call by wanted index) marks p next = omega arith
after_most (Begin at) marks p next = omega arith

stood_count : (ws : List ℕ) (s : Sites) (ps : List Piece) (p q : Spot) → Stands ws s p ps q → q.offset ≤ p.offset + count_of ps
stood_count ws s [] p q stands = let end = ap (λ (r : Spot). r.offset) stands in omega (arith, end)
stood_count ws s (x ∷ ps) p q stands =
    let one = after_most x s.marks p (ahead ps) in
    let rest = stood_count ws s ps (after s.marks p x (ahead ps)) q stands.1 in
    omega (arith, one, rest)

finished_count : (c : Code) (m : Module) → Finished c m → m.size ≤ 16383 → m.size ≤ count_of c.pieces.items
finished_count c m f le =
    let count = stood_count (laid 0 m.fixes.items m.words.items) (sites 0 f.marks no_entries) c.pieces.items (at_left 0) (at_left (0 + length m.words.items)) (stands_there c m f le) in
    let size = f.size in
    omega (arith, count, size)

-- ---- 2. rounds

-- a round that changes nothing
record Rests (stands : List Stand) (ts : List Turn) : Type 0 where
  round : ℕ
  same : rounds stands ts (suc round) ≡ rounds stands ts round

next_round : (stands : List Stand) (ts : List Turn) (m : ℕ)
    → longer_from stands (shifts_of 0 ts (rounds stands ts m)) 0 ts (rounds stands ts m) ≡ rounds stands ts (suc m)
next_round stands ts m = rounds_more stands ts m (rounds stands ts m) _ (shifts_of 0 ts (rounds stands ts m)) refl refl refl

-- one that leaves as many short forms
rests_at : (stands : List Stand) (ts : List Turn) (m : ℕ) → near (rounds stands ts m) ≤ near (rounds stands ts (suc m)) → Rests stands ts
rests_at stands ts m no_fewer = record {
  round = m;
  same = sym (next_round stands ts m)
      ∙ (near_longer ts stands (shifts_of 0 ts (rounds stands ts m)) 0 (rounds stands ts m) (length-rounds stands ts m)).1
      (subst (λ fs. near (rounds stands ts m) ≤ near fs) (sym (next_round stands ts m)) no_fewer);
}

none_fewer : (a b : ℕ) → a ≤ 0 → a ≤ b
none_fewer a b le = omega (arith, le)

rest : (left : ℕ) (stands : List Stand) (ts : List Turn) (m : ℕ) → near (rounds stands ts m) ≤ left → Rests stands ts
rest zero stands ts m le = rests_at stands ts m (none_fewer (near (rounds stands ts m)) (near (rounds stands ts (suc m))) le)
rest (suc n) stands ts m le =
    by (cases_lt (near (rounds stands ts (suc m))) (near (rounds stands ts m))) (λ few. rest n stands ts (suc m) few)
  where
    by : (near (rounds stands ts (suc m)) < near (rounds stands ts m)) ⊎ (near (rounds stands ts m) ≤ near (rounds stands ts (suc m)))
        → (near (rounds stands ts (suc m)) ≤ n → Rests stands ts) → Rests stands ts
    by (inr no_fewer) go = rests_at stands ts m no_fewer
    by (inl fewer) go = go (omega (arith, le, fewer))

-- ---- 3. pieces that are too long

long_count : (ps : List Piece) (ms : List Bool) → InStep ps ms → IsLong ps → 16383 < count_of ps
long_count ps ms step long =
    let stands : List Stand = stands_in ps (length ms) in
    let ts : List Turn = turns_of (at_left 0) ps in
    let r : Rests stands ts = rest (near (rounds stands ts 0)) stands ts 0 (same_number (near (rounds stands ts 0))) in
    let marks : ℕ → ℕ = λ l. slice_index (targets stands ts (rounds stands ts r.round)) l in
    let far = long marks (last_settled ps ms step r.round r.same marks (λ l. refl)) in
    let end = last_end ps ms step r.round r.same marks (λ l. refl) in
    let count = round_counts ps ms step (rounds stands ts r.round) in
    omega (arith, far, end, count)
  where
    same_number : (n : ℕ) → n ≤ n
    same_number n = omega arith

pub size_count : (c : Code) (m : Module) → (m.size ≤ 16383 → Finished c m) → (16383 < m.size → Oversized c m) → m.size ≤ count_of c.pieces.items
size_count c m finished oversized = by (cases_lt 16383 m.size)
  where
    by : (16383 < m.size) ⊎ (m.size ≤ 16383) → m.size ≤ count_of c.pieces.items
    by (inl long) =
        let o = oversized long in
        let size = o.size in
        let count = long_count c.pieces.items c.marks.items c.in_step o.long in
        omega (arith, size, count)
    by (inr le) = finished_count c m (finished le) le
