use Rattle.std.proofs.Common.{rules, tests, ◌≡◌, ◌∙◌, refl, ap, arith, ◌+◌, ◌-◌, drop}
use Rattle.storage.specs.Records.{port_of}
use Rattle.storage.specs.Orders.{and_then, num_order, flag_order}
use Rattle.storage.proofs.OrderLaws.{parts_order, then_told, num_cmp, flag_cmp}
use Rattle.storage.proofs.compare_at.Goals as goal

pub returns : goal.returns
returns c =
    let p = port_of c.args.k (drop c.args.a c.args.image.now) in
    let q = port_of c.args.k (drop c.args.b c.args.image.now) in
    let a = then_told c.letters_order.result (num_order p.source q.source) c.then_with.result c.then_with.ensures (λ x. search (rules, tests, num_cmp)) in
    let b = then_told c.then_with.result (num_order p.anchor q.anchor) c.then_with-2.result c.then_with-2.ensures (λ x. search (rules, tests, num_cmp)) in
    let d = then_told c.then_with-2.result (flag_order p.reverse q.reverse) c.then_with-3.result c.then_with-3.ensures (λ x. search (rules, tests, flag_cmp)) in
    let cut : c.args.b + c.args.k - c.args.b ≡ c.args.k = omega arith in
    d
    ∙ ap (λ o. and_then o (flag_order p.reverse q.reverse)) (b ∙ ap (λ o. and_then o (num_order p.anchor q.anchor)) a)
    ∙ parts_order c.args.image.now c.args.a c.args.b c.args.k c.requires.0 c.requires.1 c.letters_order.result _ _ _ (rw cut at c.letters_order.ensures) refl refl refl
