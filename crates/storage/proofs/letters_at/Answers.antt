use Rattle.std.proofs.Common.{ℕ, ◌≡◌, ◌+◌, ◌-◌, ◌++◌, ap, List, take, drop, replicate, arith}
use Rattle.storage.proofs.Laws.{drop_replicate}
use Rattle.storage.proofs.letters_at.Goals as goal

pub returns : goal.returns
returns c =
    let cut : c.args.at + c.args.k - c.args.at ≡ c.args.k = omega arith in
    let rest : drop c.args.k (replicate 32 0) ≡ replicate (32 - c.args.k) 0 = drop_replicate c.args.k 32 c.requires.1 in
    rw (c.copy_from_slice.ensures.after, cut) (ap (λ (t : List ℕ). take c.args.k (drop c.args.at c.args.image.now) ++ t) rest)
