-- The words of pieces stand for them wherever in a segment they lie, with entries and offsets put in at their fixes.
-- 1. what stands where a piece is met: its words, and no fix but its own              (Lies, next_lies, no_fix)
-- 2. the word of an instruction has that instruction, a branch leads to its mark       (turns_stand, call_stands)
-- 3. so each piece stands where it is met, and the next one behind it                  (holds, standing)
use Rattle.std.proofs.Common.{◌≡◌, ℕ, suc, ◌+◌, ◌<◌, ◌≤◌, ◌==◌, ◌⊎◌, inl, inr, Bool, true, false, nat_lt, if◌then◌else◌, List, [], ◌∷◌, ◌++◌, length, Option, None, Some, slice_get, refl, sym, ap, subst, ◌∙◌, arith, add-zero, zero-add}
use Rattle.std.specs.Bool.{MatchBool}
use Rattle.std.specs.List.{list_all}
use Rattle.std.proofs.lemmas.List.{length-append}
use Rattle.std.proofs.lemmas.Bool.{cases_lt, ne_eqb, eq-eqb, false≢true, and_parts, and_from, ltb-false, lt-ltb, le-ltb}
use Rattle.hp_instr.specs.declared.instruction.Instr.{Instr}
use Rattle.hp_instr.specs.declared.instruction.Instr.TheVariants as i
use Rattle.hp_instr.specs.declared.instruction.Op.{Op}
use Rattle.hp_instr.specs.Instructions.{op}
use Rattle.hp_instr.specs.Encoded.{encoded}
use Rattle.hp_instr.specs.Fields.{is_op}
use Rattle.hp_instr.specs.Given.{has_word}
use Rattle.hp_instr.proofs.FieldLaws.{instruction-encoded}
use Rattle.spl_branch.specs.declared.pieces.Piece.{Piece}
use Rattle.spl_branch.specs.declared.pieces.Piece.TheVariants.{Do, Literal, Place, Branch, Mark, Call, Begin}
use Rattle.spl_branch.specs.declared.modules.Fix.{Fix}
use Rattle.spl_branch.specs.declared.modules.FixKind.TheVariants as kind
use Rattle.spl_branch.specs.declared.spots.Spot.{Spot}
use Rattle.spl_branch.specs.Pieces.{is_formed, is_single, is_direct, is_call}
use Rattle.spl_branch.specs.Branches.{reach, more, gap, is_far, branch_size, aimed, toward, through, past, calling}
use Rattle.spl_branch.specs.Stands.{at_left, at_right, operation, operation_of, ahead, past_instr, after, end_of, Has, LeadsTo, Does, TurnsFar, Turns, Holds, Stands, MarkStands, Settled}
use Rattle.spl_branch.specs.Fixes.{piece_fixes, fixes_of}
use Rattle.spl_branch.specs.Modules.{fix_at, with_entry, put_in, sites, StandWherever}
use Rattle.spl_branch.specs.Words.{instr_words, distance, far_words, branch_words, piece_words, words_of}
use Rattle.spl_branch.proofs.FormedLemmas.{through_has_word, past_has_word, call_has_word, pair_has_word, ahead_listed}
use Rattle.spl_branch.proofs.WordLemmas.{end_of_rises}

-- where the next word that is not yet there stands
abbrev pub start_of : Spot → ℕ
start_of p = p.offset + (if p.right then 1 else 0)

-- a place on the right waits for a stack operation
abbrev pub Waits : Spot → Op → Type 0
Waits p o = p.right ≡ true → (o.code == 0) ≡ false

-- words from an offset of a module on stand in the segment
abbrev pub Lies : List ℕ → ℕ → (Bool → ℕ → ℕ) → ℕ → List ℕ → List Fix → Type 0
Lies segment base entries o ws fs = (j w : ℕ) → slice_get ws j ≡ Some w → slice_get segment ((base + o) + j) ≡ Some (put_in base entries (fix_at fs (o + j)) w)

slice_get_behind : (xs ys : List ℕ) (j : ℕ) → slice_get (xs ++ ys) (length xs + j) ≡ slice_get ys j
slice_get_behind [] ys j = ap (slice_get ys) (zero-add j)
slice_get_behind (x ∷ xs) ys j = ap (slice_get (x ∷ (xs ++ ys))) (along (length xs) j) ∙ slice_get_behind xs ys j where
  along : (n j : ℕ) → suc n + j ≡ suc (n + j)
  along n j = omega arith

fix_past : (f : Fix) (fs : List Fix) (k : ℕ) → f.offset < k → fix_at (f ∷ fs) k ≡ fix_at fs k
fix_past f fs k h = rw (ne_eqb f.offset k (λ e. absurd (omega arith))) refl

-- behind the words of a piece
lies_behind : (segment : List ℕ) (base : ℕ) (entries : Bool → ℕ → ℕ) (o o' : ℕ) (ws rest : List ℕ) (fs gs : List Fix) → o' ≡ o + length ws → ((k : ℕ) → o' ≤ k → fix_at (fs ++ gs) k ≡ fix_at gs k)
    → Lies segment base entries o (ws ++ rest) (fs ++ gs) → Lies segment base entries o' rest gs
lies_behind segment base entries o o' ws rest fs gs e free lies j w h =
    ap (slice_get segment) (omega arith)
    ∙ lies (length ws + j) w (slice_get_behind ws rest j ∙ h)
    ∙ ap (λ k. Some (put_in base entries (fix_at (fs ++ gs) k) w)) (omega arith)
    ∙ ap (λ o. Some (put_in base entries o w)) (free (o' + j) (omega arith))

-- a place on the right has a stack operation
pub left_unless : (p : Spot) (o : Op) → Waits p o → (o.code == 0) ≡ true → p.right ≡ false
left_unless p o waits e = go p.right refl where
  go : (b : Bool) → p.right ≡ b → p.right ≡ false
  go true h = absurd (false≢true (sym (waits h) ∙ e))
  go false h = h

-- what follows an instruction waits on the right only for a stack operation
past_waits : (by : Instr) (p : Spot) (next : Op) → Waits (past_instr p by next) next
past_waits (i.Pair left right) p next h = go p.right (next.code == 0) refl h where
  go : (r n : Bool) → (next.code == 0) ≡ n → Waits (if r then at_left (p.offset + 1) else if n then at_left (p.offset + 1) else at_right p.offset) next
  go true n e h = absurd (false≢true h)
  go false true e h = absurd (false≢true h)
  go false false e h = e
past_waits (i.Shifted kind count) p next h = absurd (false≢true h)
past_waits (i.Short test back d) p next h = absurd (false≢true h)
past_waits (i.Immediate which n) p next h = absurd (false≢true h)
past_waits (i.Control which n) p next h = absurd (false≢true h)
past_waits (i.Memory major second x ind mode) p next h = absurd (false≢true h)
past_waits (i.LoadCode back d) p next h = absurd (false≢true h)
past_waits (i.Branch ind back d) p next h = absurd (false≢true h)
past_waits (i.OnCode mask back d) p next h = absurd (false≢true h)
past_waits (i.Loop modify back d) p next h = absurd (false≢true h)
past_waits (i.Illegal w) p next h = absurd (false≢true h)

pub next_waits : (x : Piece) (marks : ℕ → ℕ) (p : Spot) (next : Op) → Waits p (operation x) → Waits (after marks p x next) next
next_waits (Do by) marks p next w h = past_waits by p next h
next_waits (Literal v) marks p next w h = absurd (false≢true h)
next_waits (Place l) marks p next w h = absurd (false≢true h)
next_waits (Branch by l) marks p next w h = absurd (false≢true h)
next_waits (Mark l) marks p next w h = absurd (false≢true (sym (left_unless p (op 0) w refl) ∙ h))
next_waits (Call by wanted index) marks p next w h = absurd (false≢true h)
next_waits (Begin at) marks p next w h = absurd (false≢true (sym (left_unless p (op 0) w refl) ∙ h))

-- as many words as a piece moves on
length-far : (by : Instr) (p t : ℕ) → length (far_words by p t) ≡ 1 + more by
length-far (i.Pair left right) p t = refl
length-far (i.Shifted kind count) p t = refl
length-far (i.Short test back d) p t = refl
length-far (i.Immediate which n) p t = refl
length-far (i.Control which n) p t = refl
length-far (i.Memory major second x ind mode) p t = refl
length-far (i.LoadCode back d) p t = refl
length-far (i.Branch ind back d) p t = refl
length-far (i.OnCode mask back d) p t = refl
length-far (i.Loop modify back d) p t = refl
length-far (i.Illegal w) p t = refl

length-branch : (by : Instr) (p t : ℕ) → length (branch_words by p t) ≡ branch_size by p t
length-branch by p t = go (is_far by p t) where
  go : (b : Bool) → length (if b then far_words by p t else encoded (toward by p t) ∷ []) ≡ (if b then 1 + more by else 1)
  go true = length-far by p t
  go false = refl

instr_start : (by : Instr) (p : Spot) (next : Op) → Waits p (operation_of by) → start_of (past_instr p by next) ≡ start_of p + length (instr_words p by next)
instr_start (i.Pair left right) p next w = go p.right (next.code == 0) where
  go : (r n : Bool) → start_of (if r then at_left (p.offset + 1) else if n then at_left (p.offset + 1) else at_right p.offset) ≡ (p.offset + (if r then 1 else 0)) + length (if r then [] else encoded (i.Pair left next) ∷ [])
  go true n = omega arith
  go false true = omega arith
  go false false = omega arith
instr_start (i.Shifted kind count) p next w = rw (left_unless p (op 0) w refl) (omega arith)
instr_start (i.Short test back d) p next w = rw (left_unless p (op 0) w refl) (omega arith)
instr_start (i.Immediate which n) p next w = rw (left_unless p (op 0) w refl) (omega arith)
instr_start (i.Control which n) p next w = rw (left_unless p (op 0) w refl) (omega arith)
instr_start (i.Memory major second x ind mode) p next w = rw (left_unless p (op 0) w refl) (omega arith)
instr_start (i.LoadCode back d) p next w = rw (left_unless p (op 0) w refl) (omega arith)
instr_start (i.Branch ind back d) p next w = rw (left_unless p (op 0) w refl) (omega arith)
instr_start (i.OnCode mask back d) p next w = rw (left_unless p (op 0) w refl) (omega arith)
instr_start (i.Loop modify back d) p next w = rw (left_unless p (op 0) w refl) (omega arith)
instr_start (i.Illegal v) p next w = rw (left_unless p (op 0) w refl) (omega arith)

pub next_start : (x : Piece) (marks : ℕ → ℕ) (p : Spot) (next : Op) → Waits p (operation x) → start_of (after marks p x next) ≡ start_of p + length (piece_words marks p x next)
next_start (Do by) marks p next w = instr_start by p next w
next_start (Literal v) marks p next w = rw (left_unless p (op 0) w refl) (omega arith)
next_start (Place l) marks p next w = rw (left_unless p (op 0) w refl) (omega arith)
next_start (Branch by l) marks p next w = rw (left_unless p (op 0) w refl) (omega (arith, length-branch by p.offset (marks l)))
next_start (Mark l) marks p next w = omega arith
next_start (Call by wanted index) marks p next w = rw (left_unless p (op 0) w refl) (omega arith)
next_start (Begin at) marks p next w = omega arith

-- pieces have no fix before the place where they begin
pub no_fix : (ps : List Piece) (marks : ℕ → ℕ) (p : Spot) (k : ℕ) → Waits p (ahead ps) → k < start_of p → fix_at (fixes_of marks p ps) k ≡ None
no_fix [] marks p k w h = refl
no_fix (x ∷ ps) marks p k w h = go x w (no_fix ps marks (after marks p x (ahead ps)) k (next_waits x marks p (ahead ps) w) (omega (arith, next_start x marks p (ahead ps) w))) where
  own : (o : Op) → Waits p o → (o.code == 0) ≡ true → start_of p ≡ p.offset
  own o w e = rw (left_unless p o w e) (add-zero p.offset)

  go : (x : Piece) → Waits p (operation x) → fix_at (fixes_of marks (after marks p x (ahead ps)) ps) k ≡ None → fix_at (fixes_of marks p (x ∷ ps)) k ≡ None
  go (Do by) w rest = rest
  go (Literal v) w rest = rest
  go (Place l) w rest = rw (ne_eqb p.offset k (λ e. absurd (omega (arith, own (op 0) w refl)))) rest
  go (Branch by l) w rest = rest
  go (Mark l) w rest = rest
  go (Call by wanted index) w rest = rw (ne_eqb p.offset k (λ e. absurd (omega (arith, own (op 0) w refl)))) rest
  go (Begin at) w rest = rest

-- a piece's fix is not met behind it
own_fix : (x : Piece) (marks : ℕ → ℕ) (p : Spot) (next : Op) (gs : List Fix) (k : ℕ) → Waits p (operation x) → start_of (after marks p x next) ≤ k → fix_at (piece_fixes marks p x ++ gs) k ≡ fix_at gs k
own_fix (Do by) marks p next gs k w h = refl
own_fix (Literal v) marks p next gs k w h = refl
own_fix (Place l) marks p next gs k w h = rw (ne_eqb p.offset k (λ e. absurd (omega arith))) refl
own_fix (Branch by l) marks p next gs k w h = refl
own_fix (Mark l) marks p next gs k w h = refl
own_fix (Call by wanted index) marks p next gs k w h = rw (ne_eqb p.offset k (λ e. absurd (omega arith))) refl
own_fix (Begin at) marks p next gs k w h = refl

-- the words behind a piece lie in the segment
next_lies : (x : Piece) (ps : List Piece) (marks : ℕ → ℕ) (segment : List ℕ) (base : ℕ) (entries : Bool → ℕ → ℕ) (p : Spot) → Waits p (operation x)
    → Lies segment base entries (start_of p) (words_of marks p (x ∷ ps)) (fixes_of marks p (x ∷ ps))
    → Lies segment base entries (start_of (after marks p x (ahead ps))) (words_of marks (after marks p x (ahead ps)) ps) (fixes_of marks (after marks p x (ahead ps)) ps)
next_lies x ps marks segment base entries p w lies =
    lies_behind segment base entries (start_of p) (start_of (after marks p x (ahead ps))) (piece_words marks p x (ahead ps)) (words_of marks (after marks p x (ahead ps)) ps) (piece_fixes marks p x) (fixes_of marks (after marks p x (ahead ps)) ps)
    (next_start x marks p (ahead ps) w) (λ k h. own_fix x marks p (ahead ps) (fixes_of marks (after marks p x (ahead ps)) ps) k w h) lies

-- a word that no fix changes
plain_word : (segment : List ℕ) (base : ℕ) (entries : Bool → ℕ → ℕ) (o : ℕ) (ws : List ℕ) (fs : List Fix) → Lies segment base entries o ws fs → (j w : ℕ) → slice_get ws j ≡ Some w → fix_at fs (o + j) ≡ None → slice_get segment ((base + o) + j) ≡ Some w
plain_word segment base entries o ws fs lies j w h none = lies j w h ∙ ap (λ f. Some (put_in base entries f w)) none

first_word : (segment : List ℕ) (base : ℕ) (entries : Bool → ℕ → ℕ) (o : ℕ) (w : ℕ) (ws : List ℕ) (fs : List Fix) → Lies segment base entries o (w ∷ ws) fs → (f : Option Fix) → fix_at fs o ≡ f → slice_get segment (base + o) ≡ Some (put_in base entries f w)
first_word segment base entries o w ws fs lies f e =
    ap (slice_get segment) (sym (add-zero (base + o))) ∙ lies 0 w refl ∙ ap (λ k. Some (put_in base entries (fix_at fs k) w)) (add-zero o) ∙ ap (λ g. Some (put_in base entries g w)) e

-- the word of an instruction has it
decoded : (segment : List ℕ) (a : ℕ) (by : Instr) → has_word by ≡ true → slice_get segment a ≡ Some (encoded by) → Has segment a by
decoded segment a by h e = (encoded by, e, instruction-encoded by h)

-- a word through which a BR leads to its target
leads_to : (segment : List ℕ) (base c t a : ℕ) → a ≡ base + c → c ≤ 65536 → base + t < 65536 → slice_get segment a ≡ Some (distance c t) → LeadsTo segment a (base + t)
leads_to segment base c t a e low small h = (distance c t, h, omega arith)

-- distances are the same wherever a module lies
gap_from : (base p t : ℕ) → gap (base + p) (base + t) ≡ gap p t
gap_from base p t = omega arith

far_from : (by : Instr) (base p t : ℕ) → is_far by (base + p) (base + t) ≡ is_far by p t
far_from by base p t = ap (nat_lt (reach by)) (gap_from base p t)

size_from : (by : Instr) (base p t : ℕ) → branch_size by (base + p) (base + t) ≡ branch_size by p t
size_from by base p t = ap (λ b. if b then 1 + more by else 1) (far_from by base p t)

back_from : (base p t : ℕ) → nat_lt (base + t) (base + p) ≡ nat_lt t p
back_from base p t = go (cases_lt t p) where
  go : (t < p) ⊎ (p ≤ t) → nat_lt (base + t) (base + p) ≡ nat_lt t p
  go (inl h) = lt-ltb (base + t) (base + p) (omega arith) ∙ sym (lt-ltb t p h)
  go (inr h) = le-ltb (base + t) (base + p) (omega arith) ∙ sym (le-ltb t p h)

toward_from : (by : Instr) (base p t : ℕ) → toward by p t ≡ toward by (base + p) (base + t)
toward_from by base p t = ap (λ b. aimed by b (gap p t)) (sym (back_from base p t)) ∙ ap (λ d. aimed by (nat_lt (base + t) (base + p)) d) (sym (gap_from base p t))

-- a direct branch has a word with any displacement that it reaches
aimed_has_word : (by : Instr) (back : Bool) (d : ℕ) → has_word by ≡ true → is_direct by ≡ true → d ≤ reach by → has_word (aimed by back d) ≡ true
unfolding has_word
aimed_has_word (i.Pair left right) back d h e l = absurd (false≢true e)
aimed_has_word (i.Shifted kind count) back d h e l = absurd (false≢true e)
aimed_has_word (i.Short test b n) back d h e l = and_from _ _ (and_parts _ (nat_lt n 32) h).0 (lt-ltb d 32 (omega arith))
aimed_has_word (i.Immediate which n) back d h e l = absurd (false≢true e)
aimed_has_word (i.Control which n) back d h e l = absurd (false≢true e)
aimed_has_word (i.Memory major second x ind mode) back d h e l = absurd (false≢true e)
aimed_has_word (i.LoadCode b n) back d h e l = absurd (false≢true e)
aimed_has_word (i.Branch ind b n) back d h e l = lt-ltb d 256 (omega arith)
aimed_has_word (i.OnCode mask b n) back d h e l = and_from _ _ (and_parts (nat_lt mask 8) (nat_lt n 32) h).0 (lt-ltb d 32 (omega arith))
aimed_has_word (i.Loop modify b n) back d h e l = lt-ltb d 256 (omega arith)
aimed_has_word (i.Illegal w) back d h e l = absurd (false≢true e)

-- the long form of a branch stands
module _ (segment : List ℕ) (base : ℕ) (entries : Bool → ℕ → ℕ) (p t : ℕ) (rest : List ℕ) (fs : List Fix) (low : p ≤ 16383) (small : base + t < 65536) where
  -- of BR, two words
  far_two : (by : Instr) → far_words by p t ≡ encoded through ∷ distance (p + 1) t ∷ [] → Lies segment base entries p (far_words by p t ++ rest) fs → ((k : ℕ) → k < p + 2 → fix_at fs k ≡ None)
      → Has segment (base + p) through × LeadsTo segment (base + p + 1) (base + t)
  far_two by e lies none =
      let words : Lies segment base entries p (encoded through ∷ distance (p + 1) t ∷ rest) fs = rw e at lies in (
        decoded segment (base + p) through through_has_word (first_word segment base entries p (encoded through) (distance (p + 1) t ∷ rest) fs words None (none p (omega arith))),
        leads_to segment base (p + 1) t (base + p + 1) (omega arith) (omega arith) small (plain_word segment base entries p (encoded through ∷ distance (p + 1) t ∷ rest) fs words 1 (distance (p + 1) t) refl (none (p + 1) (omega arith))),
      )

  -- of another branch, four
  far_four : (by : Instr) → has_word (aimed by false 2) ≡ true → far_words by p t ≡ encoded (aimed by false 2) ∷ encoded past ∷ encoded through ∷ distance (p + 3) t ∷ [] → Lies segment base entries p (far_words by p t ++ rest) fs → ((k : ℕ) → k < p + 4 → fix_at fs k ≡ None)
      → Has segment (base + p) (aimed by false 2) × Has segment (base + p + 1) past × Has segment (base + p + 2) through × LeadsTo segment (base + p + 3) (base + t)
  far_four by h e lies none =
      let ws : List ℕ = encoded (aimed by false 2) ∷ encoded past ∷ encoded through ∷ distance (p + 3) t ∷ rest in
      let words : Lies segment base entries p ws fs = rw e at lies in (
        decoded segment (base + p) (aimed by false 2) h (first_word segment base entries p (encoded (aimed by false 2)) (encoded past ∷ encoded through ∷ distance (p + 3) t ∷ rest) fs words None (none p (omega arith))),
        decoded segment (base + p + 1) past past_has_word (plain_word segment base entries p ws fs words 1 (encoded past) refl (none (p + 1) (omega arith))),
        decoded segment (base + p + 2) through through_has_word (plain_word segment base entries p ws fs words 2 (encoded through) refl (none (p + 2) (omega arith))),
        leads_to segment base (p + 3) t (base + p + 3) (omega arith) (omega arith) small (plain_word segment base entries p ws fs words 3 (distance (p + 3) t) refl (none (p + 3) (omega arith))),
      )

  far_stands : (by : Instr) → has_word by ≡ true → is_direct by ≡ true → Lies segment base entries p (far_words by p t ++ rest) fs → ((k : ℕ) → k < p + (1 + more by) → fix_at fs k ≡ None) → TurnsFar segment (base + p) by (base + t)
  far_stands (i.Pair left right) h e lies none = absurd (false≢true e)
  far_stands (i.Shifted kind count) h e lies none = absurd (false≢true e)
  far_stands (i.Short test b n) h e lies none = far_four (i.Short test b n) (aimed_has_word (i.Short test b n) false 2 h e (omega arith)) refl lies (λ k g. none k (omega arith))
  far_stands (i.Immediate which n) h e lies none = absurd (false≢true e)
  far_stands (i.Control which n) h e lies none = absurd (false≢true e)
  far_stands (i.Memory major second x ind mode) h e lies none = absurd (false≢true e)
  far_stands (i.LoadCode b n) h e lies none = absurd (false≢true e)
  far_stands (i.Branch ind b n) h e lies none = far_two (i.Branch ind b n) refl lies (λ k g. none k (omega arith))
  far_stands (i.OnCode mask b n) h e lies none = far_four (i.OnCode mask b n) (aimed_has_word (i.OnCode mask b n) false 2 h e (omega arith)) refl lies (λ k g. none k (omega arith))
  far_stands (i.Loop modify b n) h e lies none = far_four (i.Loop modify b n) (aimed_has_word (i.Loop modify b n) false 2 h e (omega arith)) refl lies (λ k g. none k (omega arith))
  far_stands (i.Illegal w) h e lies none = absurd (false≢true e)

  -- in either form
  turns_stand : (by : Instr) → has_word by ≡ true → is_direct by ≡ true → Lies segment base entries p (branch_words by p t ++ rest) fs → ((k : ℕ) → k < p + branch_size by p t → fix_at fs k ≡ None) → Turns segment (base + p) by (base + t)
  turns_stand by h e lies none = rw (far_from by base p t) (go (is_far by p t) refl lies none) where
    go : (b : Bool) → is_far by p t ≡ b → Lies segment base entries p ((if b then far_words by p t else encoded (toward by p t) ∷ []) ++ rest) fs → ((k : ℕ) → k < p + (if b then 1 + more by else 1) → fix_at fs k ≡ None)
        → MatchBool b (TurnsFar segment (base + p) by (base + t)) (Has segment (base + p) (toward by (base + p) (base + t)))
    go true f lies none = far_stands by h e lies none
    go false f lies none =
        let Q : Instr → Type 0 = λ v. Has segment (base + p) v in
        subst Q (toward_from by base p t)
        (decoded segment (base + p) (toward by p t) (aimed_has_word by (nat_lt t p) (gap p t) h e (ltb-false (reach by) (gap p t) f))
        (first_word segment base entries p (encoded (toward by p t)) rest fs lies None (none p (omega arith))))

-- a call with its entry put in
call_word : (which n e : ℕ) → is_call (i.Control which n) ≡ true → with_entry (encoded (i.Control which 0)) e ≡ encoded (i.Control which e)
unfolding encoded
call_word which n e h = omega arith

call_stands : (segment : List ℕ) (base : ℕ) (entries : Bool → ℕ → ℕ) (by : Instr) (wanted : Bool) (index o : ℕ) (rest : List ℕ) (gs : List Fix) → is_call by ≡ true → entries wanted index < 256
    → Lies segment base entries o (encoded (calling by 0) ∷ rest) (record { offset = o; kind = (if wanted then kind.Want else kind.Define); index = index } ∷ gs) → Has segment (base + o) (calling by (entries wanted index))
call_stands segment base entries (i.Control which n) wanted index o rest gs h small lies =
    decoded segment (base + o) (i.Control which (entries wanted index)) (call_has_word which n (entries wanted index) small h)
    (first_word segment base entries o (encoded (i.Control which 0)) rest (f ∷ gs) lies (Some f) (rw (eq-eqb o o refl) refl) ∙ ap Some (put wanted ∙ call_word which n (entries wanted index) h)) where
      f : Fix
      f = record { offset = o; kind = (if wanted then kind.Want else kind.Define); index = index }

      put : (b : Bool) → put_in base entries (Some (record { offset = o; kind = (if b then kind.Want else kind.Define); index = index })) (encoded (i.Control which 0)) ≡ with_entry (encoded (i.Control which 0)) (entries b index)
      put true = refl
      put false = refl
call_stands segment base entries (i.Pair left right) wanted index o rest gs h small lies = absurd (false≢true h)
call_stands segment base entries (i.Shifted k count) wanted index o rest gs h small lies = absurd (false≢true h)
call_stands segment base entries (i.Short test back d) wanted index o rest gs h small lies = absurd (false≢true h)
call_stands segment base entries (i.Immediate which n) wanted index o rest gs h small lies = absurd (false≢true h)
call_stands segment base entries (i.Memory major second x ind mode) wanted index o rest gs h small lies = absurd (false≢true h)
call_stands segment base entries (i.LoadCode back d) wanted index o rest gs h small lies = absurd (false≢true h)
call_stands segment base entries (i.Branch ind back d) wanted index o rest gs h small lies = absurd (false≢true h)
call_stands segment base entries (i.OnCode mask back d) wanted index o rest gs h small lies = absurd (false≢true h)
call_stands segment base entries (i.Loop modify back d) wanted index o rest gs h small lies = absurd (false≢true h)
call_stands segment base entries (i.Illegal w) wanted index o rest gs h small lies = absurd (false≢true h)

-- a place of a module in the segment
abbrev pub under : ℕ → Spot → Spot
under base p = record { offset = base + p.offset; right = p.right }

-- the left half of a word that waits for its right one
abbrev pub Half : List ℕ → ℕ → Spot → Op → Type 0
Half segment base p o = p.right ≡ true → (first : Op) × Has segment (base + p.offset) (i.Pair first o)

past_under : (by : Instr) (base : ℕ) (p : Spot) (next : Op) → past_instr (under base p) by next ≡ under base (past_instr p by next)
past_under (i.Pair left right) base p next = go p.right (next.code == 0) where
  go : (r n : Bool) → (if r then at_left (base + p.offset + 1) else if n then at_left (base + p.offset + 1) else at_right (base + p.offset)) ≡ under base (if r then at_left (p.offset + 1) else if n then at_left (p.offset + 1) else at_right p.offset)
  go true n = ap at_left (omega arith)
  go false true = ap at_left (omega arith)
  go false false = refl
past_under (i.Shifted kind count) base p next = ap at_left (omega arith)
past_under (i.Short test back d) base p next = ap at_left (omega arith)
past_under (i.Immediate which n) base p next = ap at_left (omega arith)
past_under (i.Control which n) base p next = ap at_left (omega arith)
past_under (i.Memory major second x ind mode) base p next = ap at_left (omega arith)
past_under (i.LoadCode back d) base p next = ap at_left (omega arith)
past_under (i.Branch ind back d) base p next = ap at_left (omega arith)
past_under (i.OnCode mask back d) base p next = ap at_left (omega arith)
past_under (i.Loop modify back d) base p next = ap at_left (omega arith)
past_under (i.Illegal w) base p next = ap at_left (omega arith)

after_under : (x : Piece) (base : ℕ) (marks : ℕ → ℕ) (p : Spot) (next : Op) → after (λ l. base + marks l) (under base p) x next ≡ under base (after marks p x next)
after_under (Do by) base marks p next = past_under by base p next
after_under (Literal v) base marks p next = ap at_left (omega arith)
after_under (Place l) base marks p next = ap at_left (omega arith)
after_under (Branch by l) base marks p next = ap at_left (omega (arith, size_from by base p.offset (marks l)))
after_under (Mark l) base marks p next = refl
after_under (Call by wanted index) base marks p next = ap at_left (omega arith)
after_under (Begin at) base marks p next = refl

-- the words of a piece that is no stack operation begin on the left
from_left : (segment : List ℕ) (base : ℕ) (entries : Bool → ℕ → ℕ) (p : Spot) (ws : List ℕ) (fs : List Fix) → Waits p (op 0) → Lies segment base entries (start_of p) ws fs → (p.right ≡ false) × Lies segment base entries p.offset ws fs
from_left segment base entries p ws fs w lies =
    let left : p.right ≡ false = left_unless p (op 0) w refl in
    let Q : ℕ → Type 0 = λ o. Lies segment base entries o ws fs in
    (left, subst Q (rw left (add-zero p.offset)) lies)

word_stands : (by : Instr) (segment : List ℕ) (base : ℕ) (entries : Bool → ℕ → ℕ) (p : Spot) (rest : List ℕ) (fs : List Fix) → has_word by ≡ true → Waits p (op 0) → ((k : ℕ) → k < p.offset + 1 + 0 → fix_at fs k ≡ None) → Lies segment base entries (start_of p) (encoded by ∷ rest) fs
    → (p.right ≡ false) × Has segment (base + p.offset) by
word_stands by segment base entries p rest fs h w none lies =
    let here = from_left segment base entries p (encoded by ∷ rest) fs w lies in
    (here.0, decoded segment (base + p.offset) by h (first_word segment base entries p.offset (encoded by) rest fs here.1 None (none p.offset (omega arith))))

-- an instruction stands, and its word is half done where a stack operation follows
instr_stands : (by : Instr) (segment : List ℕ) (base : ℕ) (entries : Bool → ℕ → ℕ) (p : Spot) (next : Op) (rest : List ℕ) (fs : List Fix) → has_word by ≡ true → is_op next.code ≡ true → Waits p (operation_of by) → Half segment base p (operation_of by)
    → ((k : ℕ) → k < start_of (past_instr p by next) → fix_at fs k ≡ None) → Lies segment base entries (start_of p) (instr_words p by next ++ rest) fs
    → Does segment (under base p) by next × Half segment base (past_instr p by next) next
instr_stands (i.Pair left right) segment base entries p next rest fs h n w half none lies = go p.right refl none lies where
  go : (r : Bool) → p.right ≡ r → ((k : ℕ) → k < start_of (if r then at_left (p.offset + 1) else if next.code == 0 then at_left (p.offset + 1) else at_right p.offset) → fix_at fs k ≡ None)
      → Lies segment base entries (p.offset + (if r then 1 else 0)) ((if r then [] else encoded (i.Pair left next) ∷ []) ++ rest) fs
      → MatchBool r ((first : Op) × Has segment (base + p.offset) (i.Pair first left)) (Has segment (base + p.offset) (i.Pair left next)) × Half segment base (if r then at_left (p.offset + 1) else if next.code == 0 then at_left (p.offset + 1) else at_right p.offset) next
  go true e none lies = (half e, λ f. absurd (false≢true f))
  go false e none lies = (here, λ f. (left, along (next.code == 0) f)) where
    start : Lies segment base entries p.offset (encoded (i.Pair left next) ∷ rest) fs
    start = let Q : ℕ → Type 0 = λ o. Lies segment base entries o (encoded (i.Pair left next) ∷ rest) fs in subst Q (add-zero p.offset) lies

    first_free : (b : Bool) → p.offset < start_of (if b then at_left (p.offset + 1) else at_right p.offset)
    first_free true = omega arith
    first_free false = omega arith

    here : Has segment (base + p.offset) (i.Pair left next)
    here = decoded segment (base + p.offset) (i.Pair left next) (pair_has_word left right next h n) (first_word segment base entries p.offset (encoded (i.Pair left next)) rest fs start None (none p.offset (first_free (next.code == 0))))

    along : (b : Bool) → (if b then at_left (p.offset + 1) else at_right p.offset).right ≡ true → Has segment (base + (if b then at_left (p.offset + 1) else at_right p.offset).offset) (i.Pair left next)
    along true f = absurd (false≢true f)
    along false f = here
instr_stands by segment base entries p next rest fs h n w half none lies = (word_stands by segment base entries p rest fs h w none lies, λ f. absurd (false≢true f))

-- a piece stands where it is met
piece_stands : (x : Piece) (segment : List ℕ) (base : ℕ) (entries : Bool → ℕ → ℕ) (marks : ℕ → ℕ) (p : Spot) (next : Op) (rest : List ℕ) (gs : List Fix) → ((wanted : Bool) (index : ℕ) → entries wanted index < 256) → ((l : ℕ) → base + marks l < 65536) → p.offset ≤ 16383
    → is_formed x ≡ true → is_op next.code ≡ true → Waits p (operation x) → Half segment base p (operation x) → MarkStands marks p x
    → ((k : ℕ) → k < start_of (after marks p x next) → fix_at gs k ≡ None) → Lies segment base entries (start_of p) (piece_words marks p x next ++ rest) (piece_fixes marks p x ++ gs)
    → Holds segment (sites base marks entries) (under base p) x next × Half segment base (after marks p x next) next
piece_stands (Do by) segment base entries marks p next rest gs few small low f n w half s none lies = instr_stands by segment base entries p next rest gs (and_parts (has_word by) (is_single by) f).0 n w half none lies
piece_stands (Literal v) segment base entries marks p next rest gs few small low f n w half s none lies =
    let here = from_left segment base entries p (v ∷ rest) gs w lies in
    ((here.0, first_word segment base entries p.offset v rest gs here.1 None (none p.offset (omega arith))), λ e. absurd (false≢true e))
piece_stands (Place l) segment base entries marks p next rest gs few small low f n w half s none lies =
    let own : Fix = record { offset = p.offset; kind = kind.Place; index = marks l } in
    let here = from_left segment base entries p (marks l ∷ rest) (own ∷ gs) w lies in
    ((here.0, first_word segment base entries p.offset (marks l) rest (own ∷ gs) here.1 (Some own) (rw (eq-eqb p.offset p.offset refl) refl)), λ e. absurd (false≢true e))
piece_stands (Branch by l) segment base entries marks p next rest gs few small low f n w half s none lies =
    let both = and_parts (has_word by) (is_direct by) f in
    let here = from_left segment base entries p (branch_words by p.offset (marks l) ++ rest) gs w lies in
    ((here.0, turns_stand segment base entries p.offset (marks l) rest gs low (small l) by both.0 both.1 here.1 (λ k g. none k (omega arith))), λ e. absurd (false≢true e))
piece_stands (Mark l) segment base entries marks p next rest gs few small low f n w half s none lies =
    let left : p.right ≡ false = left_unless p (op 0) w refl in
    (spot_is base p (base + marks l) left (ap (λ o. base + o) (sym s)), λ e. absurd (false≢true (sym left ∙ e))) where
      spot_is : (base : ℕ) (p : Spot) (o : ℕ) → p.right ≡ false → base + p.offset ≡ o → under base p ≡ at_left o
      spot_is base p o left e = rw (left, e) refl
piece_stands (Call by wanted index) segment base entries marks p next rest gs few small low f n w half s none lies =
    let both = and_parts (has_word by) (is_call by) f in
    let own : Fix = record { offset = p.offset; kind = (if wanted then kind.Want else kind.Define); index = index } in
    let here = from_left segment base entries p (encoded (calling by 0) ∷ rest) (own ∷ gs) w lies in
    ((here.0, call_stands segment base entries by wanted index p.offset rest gs both.1 (few wanted index) here.1), λ e. absurd (false≢true e))
piece_stands (Begin at) segment base entries marks p next rest gs few small low f n w half s none lies =
    let left : p.right ≡ false = left_unless p (op 0) w refl in
    (left, λ e. absurd (false≢true (sym left ∙ e)))

-- pieces stand where they are met
standing : (ps : List Piece) (segment : List ℕ) (base : ℕ) (entries : Bool → ℕ → ℕ) (marks : ℕ → ℕ) (p : Spot) → ((wanted : Bool) (index : ℕ) → entries wanted index < 256) → ((l : ℕ) → base + marks l < 65536) → (end_of marks p ps).offset ≤ 16383
    → list_all is_formed ps ≡ true → Waits p (ahead ps) → Half segment base p (ahead ps) → Settled marks p ps → Lies segment base entries (start_of p) (words_of marks p ps) (fixes_of marks p ps)
    → Stands segment (sites base marks entries) (under base p) ps (under base (end_of marks p ps))
standing [] segment base entries marks p few small low f w half s lies = refl
standing (x ∷ ps) segment base entries marks p few small low f w half s lies =
    let both = and_parts (is_formed x) (list_all is_formed ps) f in
    let q : Spot = after marks p x (ahead ps) in
    let waits : Waits q (ahead ps) = next_waits x marks p (ahead ps) w in
    let here : Holds segment (sites base marks entries) (under base p) x (ahead ps) × Half segment base q (ahead ps) =
    piece_stands x segment base entries marks p (ahead ps) (words_of marks q ps) (fixes_of marks q ps) few small (omega (arith, end_of_rises (x ∷ ps) marks p)) both.0 (ahead_listed ps both.1) w half s.0
    (λ k g. no_fix ps marks q k waits g) lies in
    let Q : Spot → Type 0 = λ r. Stands segment (sites base marks entries) r ps (under base (end_of marks q ps)) in (
      here.0,
      subst Q (sym (after_under x base marks p (ahead ps)))
          (standing ps segment base entries marks q few small low both.1 waits here.1 s.1 (next_lies x ps marks segment base entries p w lies)),
    )

-- pieces end on the left
end_left : (ps : List Piece) (marks : ℕ → ℕ) (p : Spot) → Waits p (ahead ps) → (end_of marks p ps).right ≡ false
end_left [] marks p w = left_unless p (op 0) w refl
end_left (x ∷ ps) marks p w = end_left ps marks (after marks p x (ahead ps)) (next_waits x marks p (ahead ps) w)

-- as many words as pieces go on
pub length-words_of : (ps : List Piece) (marks : ℕ → ℕ) (p : Spot) → Waits p (ahead ps) → start_of (end_of marks p ps) ≡ start_of p + length (words_of marks p ps)
length-words_of [] marks p w = omega arith
length-words_of (x ∷ ps) marks p w = omega (arith, length-words_of ps marks (after marks p x (ahead ps)) (next_waits x marks p (ahead ps) w), next_start x marks p (ahead ps) w, length-append (piece_words marks p x (ahead ps)) (words_of marks (after marks p x (ahead ps)) ps))

pub no_wait : (o : Op) → Waits (at_left 0) o
no_wait o e = absurd (false≢true e)

pub length-words : (ps : List Piece) (marks : ℕ → ℕ) → length (words_of marks (at_left 0) ps) ≡ (end_of marks (at_left 0) ps).offset
length-words ps marks = omega (arith, length-words_of ps marks (at_left 0) (no_wait (ahead ps)), ap {B = ℕ} (λ b. if b then 1 else 0) (end_left ps marks (at_left 0) (no_wait (ahead ps))))

pub stand_wherever : (ps : List Piece) (marks : ℕ → ℕ) → list_all is_formed ps ≡ true → Settled marks (at_left 0) ps → (end_of marks (at_left 0) ps).offset ≤ 16383 → ((l : ℕ) → marks l ≤ 16383)
    → StandWherever (words_of marks (at_left 0) ps) (fixes_of marks (at_left 0) ps) marks ps
stand_wherever ps marks f s low marks_low segment base entries short few lies =
    ends (standing ps segment base entries marks (at_left 0) few (λ l. omega (arith, marks_low l, lies.within)) low f (no_wait (ahead ps)) (λ e. absurd (false≢true e)) s
    (λ j w h. ap (slice_get segment) (omega arith) ∙ lies.word j w h ∙ ap (λ k. Some (put_in base entries (fix_at (fixes_of marks (at_left 0) ps) k) w)) (omega arith))) where
      size : (end_of marks (at_left 0) ps).offset ≡ length (words_of marks (at_left 0) ps)
      size = sym (length-words ps marks)

      ends : Stands segment (sites base marks entries) (under base (at_left 0)) ps (under base (end_of marks (at_left 0) ps)) → Stands segment (sites base marks entries) (at_left base) ps (at_left (base + length (words_of marks (at_left 0) ps)))
      ends h =
          let P : Spot → Type 0 = λ q. Stands segment (sites base marks entries) q ps (at_left (base + length (words_of marks (at_left 0) ps))) in
          let Q : Spot → Type 0 = λ q. Stands segment (sites base marks entries) (under base (at_left 0)) ps q in
          subst P (ap at_left (add-zero base)) (subst Q (rw (end_left ps marks (at_left 0) (no_wait (ahead ps)), size) refl) h)
