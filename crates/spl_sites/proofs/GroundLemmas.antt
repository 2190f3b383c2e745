-- In the words of a module the ground has its starts.
use Rattle.std.proofs.Common.{◌≡◌, ℕ, ◌+◌, ◌<◌, ◌≤◌, List, [], ◌∷◌, ◌++◌, Option, ap, ◌∙◌, arith}
use Rattle.std.specs.Prelude.{if◌then◌else◌, slice_get}
use Rattle.std.proofs.lemmas.Bool.{lt-ltb, le-ltb}
use Rattle.mpe_segmenter.specs.spl_branch.declared.modules.Module.{Module}
use Rattle.mpe_segmenter.specs.Names.{Part}
use Rattle.mpe_segmenter.specs.Counts.{sizes}
use Rattle.mpe_segmenter.specs.Sites.{IsModule}
use Rattle.spl_sites.specs.Grounds.{started, modules_started, segment_started}

-- behind the modules in front
among : (front : List Module) (m : Module) (back : List Module) (base k : ℕ) → base + sizes front ≤ k → k < (base + sizes front) + m.size
    → modules_started base (front ++ m ∷ back) k ≡ started (base + sizes front) m.starts.items k
among [] m back base k low high =
    ap (λ b. if b then started base m.starts.items k else modules_started (base + m.size) back k) (lt-ltb k (base + m.size) (omega (arith, high)))
    ∙ ap (λ n. started n m.starts.items k) (omega arith)
among (x ∷ front) m back base k low high =
    ap (λ b. if b then started base x.starts.items k else modules_started (base + x.size) (front ++ m ∷ back) k) (le-ltb k (base + x.size) (omega (arith, low)))
    ∙ among front m back (base + x.size) k (omega (arith, low)) (omega (arith, high))
    ∙ ap (λ n. started n m.starts.items k) (omega arith)

pub said : (ps : List Part) (seg : ℕ) (front : List Module) (m : Module) (back : List Module) → IsModule ps seg front m back
    → (k : ℕ) → sizes front ≤ k → k < sizes front + m.size → segment_started (slice_get ps seg) k ≡ started (sizes front) m.starts.items k
said ps seg front m back is k low high =
    ap (λ (o : Option Part). segment_started o k) is.there
    ∙ ap (λ (ms : List Module). modules_started 0 ms k) is.among
    ∙ among front m back 0 k (omega (arith, low)) (omega (arith, high))
    ∙ ap (λ n. started n m.starts.items k) (omega arith)
