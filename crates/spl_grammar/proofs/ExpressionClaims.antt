-- What is claimed of the parts of an expression that are spelled: they are read, unless it is too deep before their end.
use Rattle.std.proofs.Common.{ℕ, zero, suc, ◌+◌, ◌≡◌, ◌==◌, ◌<◌, ◌≤◌, Bool, true, false, if◌then◌else◌, List, [], ◌∷◌, ◌++◌, length, Option, Some, None, refl, arith, ap, ◌⊎◌, inl, inr, nat_lt}
use Rattle.std.proofs.lemmas.Bool.Decides.{nat_tests}
use Rattle.spl_reading.specs.spl_tree.declared.names_and_places.At.{At}
use Rattle.spl_reading.specs.spl_tree.declared.symbols.Symbol.{Symbol}
use Rattle.spl_reading.specs.spl_tree.declared.symbols.Symbol.TheVariants as s
use Rattle.spl_reading.specs.spl_tree.Symbols.{Lexeme, Is}
use Rattle.spl_reading.specs.spl_tree.Operators.{Form}
use Rattle.spl_reading.specs.spl_tree.Expressions as g
use Rattle.spl_reading.specs.spl_tree.Trees as tree
use Rattle.spl_reading.specs.Readers.{Outcome, Got, Parser, and_then, allowed, followed, by_symbol, refuse, repeat}
use Rattle.spl_reading.specs.ReadExpressions.{Found, is, constant, constant_by, signed_by, enter, opening, enclosed, more_arguments, unary_step, first, turn, level, whole, unary, expression, within}
use Rattle.spl_grammar.specs.Following.{Follow}
use Rattle.spl_grammar.proofs.LocalReaders.{IsLocal, local_refuse}
use Rattle.spl_grammar.proofs.LocalExpressions.{local_within}
use Rattle.spl_grammar.proofs.NearReaders.{DeepBefore, deep, Near, near_same, near_to, near_from, near_then, near_pure, near_take, near_place, near_symbol, near_if, near_expect, near_allowed, same_self}
use Rattle.spl_grammar.proofs.FollowLemmas.{follow_below, repeat_stops}

-- one reading goes on as the next
pub on_go : {A : Type 0} (n r : List Lexeme) (o p y : Outcome A) → length r ≤ length n → (o ≡ p) ⊎ DeepBefore (length n) o
    → (p ≡ y) ⊎ DeepBefore (length r) p
    → (o ≡ y) ⊎ DeepBefore (length r) o
on_go m r o p y l (inl e) k = rw e k
on_go m r _ p y l (inr (deep d)) k = inr (deep (omega arith))

pub near_on : {A : Type 0} {p q : Parser A} {ts m r : List Lexeme} {y : Outcome A} → Near p ts m (q m) → Near q m r y
    → Near p ts r y
near_on {p = p} {q = q} {ts = ts} {m = m} {r = r} {y = y} n k =
    let a = n.within in let b = k.within in
    record { within = omega arith; outcome = on_go m r (p ts) (q m) y k.within n.outcome k.outcome }

-- "(" of a construct
pub near_opening : {A : Type 0} (room taken : ℕ) (f : Lexeme → Parser A) {o : Lexeme} {ts m : List Lexeme}
    {y : Outcome A} → Is s.Open o
    → length m ≤ length ts → (nat_lt taken room ≡ true → Near (f o) ts m y)
    → Near (followed (opening room taken) f) (o ∷ ts) m y
unfolding followed opening by_symbol enter
near_opening room taken f {o = o} {ts = ts} i l h = near_from (ap (λ r. and_then r f) (go o.symbol i))
    (near_allowed (nat_lt taken room) f l h)
  where
    go : (k : Symbol) → k ≡ s.Open → (if is s.Open k then allowed (nat_lt taken room) else refuse) (o ∷ ts) ≡ allowed
        (nat_lt taken room) (o ∷ ts)
    go k e = rw (e, same_self s.Open) refl

-- a constant
pub complete_constant : {v : tree.Constant} {ts rest : List Lexeme} → g.Constant v ts rest
    → Near constant ts rest (Got v rest)
unfolding constant constant_by signed_by
complete_constant (g.Constant.number i) = near_symbol _ i (near_then _ near_take (near_pure _ _))
complete_constant (g.Constant.wide i) = near_symbol _ i (near_then _ near_take (near_pure _ _))
complete_constant (g.Constant.signed_number p e i) = near_symbol _ p
    (near_if _ e (near_then _ near_take (near_symbol _ i (near_then _ near_take (near_pure _ _)))))
complete_constant (g.Constant.signed_wide p e i) = near_symbol _ p
    (near_if _ e (near_then _ near_take (near_symbol _ i (near_then _ near_take (near_pure _ _)))))
complete_constant (g.Constant.text i) = near_symbol _ i (near_then _ near_take (near_pure _ _))
complete_constant (g.Constant.truth i) = near_symbol _ i (near_then _ near_take (near_pure _ _))
complete_constant (g.Constant.name i) = near_symbol _ i (near_then _ near_take (near_pure _ _))

-- The claims for the parts of an expression.

-- a whole expression between parentheses and commas
pub record ExpressionRead (e : tree.Tree) (ts rest : List Lexeme) : Type 0 where
  pub reads : (room taken : ℕ) → nat_lt taken room ≡ true → Near (within room taken) ts rest (Got e rest)

-- what is read behind a NOT
abbrev pub behind_not : ℕ → ℕ → Parser Found
behind_not zero taken = refuse
behind_not (suc room) taken = unary room taken None

pub unary_is : (room taken : ℕ) (f : Option At)
    → unary room taken f ≡ unary_step room (behind_not room taken) (within room taken) taken f
unfolding unary within expression
unary_is zero taken f = refl
unary_is (suc room) taken f = refl

-- the readers of the counts of a comparison of bytes
abbrev pub counts : Bool → ℕ → ℕ → Parser tree.Tree
counts false room = λ _. refuse
counts true room = within room

-- a part of level h, read behind n operators
abbrev pub part : Bool → ℕ → ℕ → ℕ → ℕ → Option At → Parser Found
part c room taken = level (unary room) (counts c room) room c taken

-- the loop of level suc h
abbrev pub loop : Bool → ℕ → ℕ → ℕ → At → Found → Parser Found
loop c room taken h at = repeat (turn (unary room) (counts c room) room c taken (part c room taken h) h at)

pub local_counts : (c : Bool) (room k : ℕ) → IsLocal (counts c room k)
local_counts false room k = local_refuse
local_counts true room k = local_within room k

-- the level of what may not follow the first operand of level suc h; relations do not follow one another
abbrev pub seen : ℕ → ℕ
seen h = if suc h == 4 then suc h else h

-- what is read of a part with n operators of its own
abbrev pub found : ℕ → Form → tree.Tree → Found
found n x e = record { count = n; form = x; tree = e }

pub data PartRead (c : Bool) (f : Option At) : ℕ → ℕ → Form → tree.Tree → List Lexeme → List Lexeme → Type 0 where
  operand : {x : Form} {e : tree.Tree} {ts rest : List Lexeme}
      → (Follow c 0 rest → (room taken k : ℕ) → Near (part c room taken 0 k f) ts rest (Got (found k x e) rest))
      → PartRead c f 0 0 x e ts rest
  looped : {h n : ℕ} {x : Form} {e : tree.Tree} {ts rest : List Lexeme}
      → (Follow c (seen h) rest → (room taken k : ℕ)
      → Near (part c room taken (suc h) k f) ts rest (loop c room taken h (g.start f ts) (found (k + n) x e) rest))
      → PartRead c f (suc h) n x e ts rest

pub seen_at_most : (h : ℕ) → seen h ≤ suc h
seen_at_most h = go (suc h == 4)
  where
    go : (b : Bool) → (if b then suc h else h) ≤ suc h
    go true = omega arith
    go false = omega arith

-- what the claim says of the whole part
pub part_of : {c : Bool} {f : Option At} {h n : ℕ} {x : Form} {e : tree.Tree} {ts rest : List Lexeme}
    → PartRead c f h n x e ts rest
    → Follow c h rest → (room taken k : ℕ) → Near (part c room taken h k f) ts rest (Got (found (k + n) x e) rest)
part_of {x = x} {e = e} (operand p) w room taken k = near_to (p w room taken k)
    (ap (λ n. Got (found n x e) _) (omega arith))
part_of {c = c} (looped {h = h} p) w room taken k = near_on
    (p (follow_below c (suc h) (seen h) (seen_at_most h) w) room taken k) (repeat_stops _ _ _ _ _ _ _ _ _ _ w)

pub loop_of : {c : Bool} {f : Option At} {h n : ℕ} {x : Form} {e : tree.Tree} {ts rest : List Lexeme}
    → PartRead c f (suc h) n x e ts rest
    → Follow c (seen h) rest → (room taken k : ℕ)
    → Near (part c room taken (suc h) k f) ts rest (loop c room taken h (g.start f ts) (found (k + n) x e) rest)
loop_of (looped p) = p

-- an expression between parentheses, by the claim for its level
pub expression_of : {n : ℕ} {x : Form} {e : tree.Tree} {ts rest : List Lexeme} → PartRead false None 10 n x e ts rest
    → Follow false 10 rest
    → ExpressionRead e ts rest
unfolding within expression whole
expression_of {e = e} {ts = ts} {rest = rest} p w = record { reads = go }
  where
    go : (room taken : ℕ) → nat_lt taken room ≡ true → Near (within room taken) ts rest (Got e rest)
    go zero taken l = absurd (grind (arith, nat_tests, l))
    go (suc room) taken l = near_then _ (part_of p w room taken 0) (near_pure _ _)

-- "(" expr ")"
pub near_enclosed : (room taken : ℕ) (inner : Parser Found) {e : tree.Tree} {o z : Lexeme} {ts rest : List Lexeme}
    → Is s.Open o → ExpressionRead e ts (z ∷ rest)
    → Is s.Close z → length rest < length ts
    → Near (enclosed room inner (within room taken) taken) (o ∷ ts) rest (Got e rest)
unfolding enclosed
near_enclosed room taken inner i r j l = near_opening room taken _ i (omega arith)
    (λ ok. near_then _ (r.reads room taken ok)
    (near_then _ (near_expect j) (near_pure _ _)))

-- arguments: the first, and the loop of the others
pub record ArgumentsRead (es : List tree.Tree) (ts rest : List Lexeme) : Type 0 where
  pub first : tree.Tree
  pub middle : List Lexeme
  pub shorter : length rest < length ts
  pub reads : ExpressionRead first ts middle
  pub others : (room taken : ℕ) (inner : Parser Found) → nat_lt taken room ≡ true → (so_far : List tree.Tree)
      → Near (repeat (more_arguments room inner (within room taken) taken) (so_far ++ first ∷ [])) middle rest
      (Got (so_far ++ es) rest)

-- a list with a first token, where fewer follow
pub has_first : (P : List Lexeme → Type 0) (ts rest : List Lexeme) → length rest < length ts
    → ((t : Lexeme) (us : List Lexeme) → P (t ∷ us)) → P ts
has_first P [] rest l h = absurd (omega arith)
has_first P (t ∷ us) rest l h = h t us

-- the first operand and the loop of a level
pub near_level : (c : Bool) (h k : ℕ) (f : Option At) (room taken : ℕ) {ts m rest : List Lexeme} {r : Found}
    {y : Outcome Found} → length m < length ts
    → Near (first (unary room) (counts c room) room c taken (part c room taken h) h k f) ts m (Got r m)
    → Near (loop c room taken h (g.start f ts) r) m rest y → Near (part c room taken (suc h) k f) ts rest y
unfolding level
near_level c h k f room taken {ts = []} l n o = absurd (omega arith)
near_level c h k None room taken {ts = t ∷ us} l n o = near_then _ near_place (near_then _ n o)
near_level c h k (Some a) room taken {ts = t ∷ us} l n o = near_then _ near_place (near_then _ n o)

-- the loop goes on as it is
pub stays : {A : Type 0} {p : Parser A} {ts : List Lexeme} → Near p ts ts (p ts)
stays = near_same (omega arith) refl

pub at_seen : (h : ℕ) → h ≤ seen h
at_seen h = go (suc h == 4)
  where
    go : (b : Bool) → h ≤ (if b then suc h else h)
    go true = omega arith
    go false = omega arith
