-- Parts of code one behind the other, as one part.
use Rattle.std.proofs.Common.{◌≡◌, ℕ, ◌+◌, ◌++◌, refl, ap, ◌∙◌, append_assoc, arith}
use Rattle.spl_routine_code.specs.spl_code.Parts.{Part, Written, nothing, ◌⨟◌}

same_written : (a b : Written) → a.pieces ≡ b.pieces → a.marks ≡ b.marks → a.wants ≡ b.wants → a ≡ b
same_written a b p m w i = record { pieces = p i; marks = m i; wants = w i }

pub nothing_first : (q : Part) → nothing ⨟ q ≡ q
nothing_first q i l ws = by i
  where
    from : (n : ℕ) → n ≡ l → (nothing ⨟ q) l ws ≡ q l ws
    from n is = same_written ((nothing ⨟ q) l ws) (q l ws) (ap (λ k. (q k ws).pieces) zero_more) (zero_marks ∙ ap (λ k. (q k ws).marks) zero_more) (ap (λ k. (q k ws).wants) zero_more)
      where
        zero_more : l + 0 ≡ l
        zero_more = omega arith

        zero_marks : 0 + (q (l + 0) ws).marks ≡ (q (l + 0) ws).marks
        zero_marks = omega arith

    by : (nothing ⨟ q) l ws ≡ q l ws
    by = from l refl

pub assoc : (p q r : Part) → (p ⨟ q) ⨟ r ≡ p ⨟ (q ⨟ r)
assoc p q r i l ws = by i
  where
    sums : (x y z : ℕ) → (x + y) + z ≡ x + (y + z)
    sums x y z = omega arith

    by : ((p ⨟ q) ⨟ r) l ws ≡ (p ⨟ (q ⨟ r)) l ws
    by =
        let a : Written = p l ws in
        let b : Written = q (l + a.marks) a.wants in
        let at : l + (a.marks + b.marks) ≡ (l + a.marks) + b.marks = omega arith in
        let c : Written = r ((l + a.marks) + b.marks) b.wants in
        let is : r (l + (a.marks + b.marks)) b.wants ≡ c = ap (λ n. r n b.wants) at in
        same_written (((p ⨟ q) ⨟ r) l ws) ((p ⨟ (q ⨟ r)) l ws)
        (ap (λ (w : Written). (a.pieces ++ b.pieces) ++ w.pieces) is ∙ append_assoc a.pieces b.pieces c.pieces)
        (ap (λ (w : Written). (a.marks + b.marks) + w.marks) is ∙ sums a.marks b.marks c.marks)
        (ap (λ (w : Written). w.wants) is)
