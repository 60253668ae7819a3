use Rattle.std.proofs.Common.{◌≡◌, ◌+◌, ◌-◌, ◌∙◌, length, take, drop, arith}
use Rattle.storage.proofs.OrderLaws.{word_cmp}
use Rattle.storage.proofs.letters_order.Goals as goal

pub returns : goal.returns
returns c =
    let cut : c.args.at + length c.args.word.now - c.args.at ≡ length c.args.word.now = omega arith in
    c.cmp.ensures ∙ rw cut (word_cmp (take (length c.args.word.now) (drop c.args.at c.args.image.now)) c.args.word.now)
