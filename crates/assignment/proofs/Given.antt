-- Laws of the refusals from 22 on: one for each way through the code.
use Prim.Native.Nat.{ℕ, ◌≤◌, ◌<◌}
use native.Mathlib.Omega.{arith}
use mathlib.Core.Path.{◌≡◌, refl, sym, ap, ◌∙◌}
use mathlib.Core.Bool.{Bool, true, false}
use mathlib.Core.List.{List}
use lib.Dec.{leb}
use lib.ListN.{length}
use borrow.Author.Tests.{le-leb, lt-leb, leb-true}
use Rattle.image.specs.Panel.{Panel}
use Rattle.evaluate.specs.declared.Refusal.{Refusal}
use Rattle.evaluate.specs.Refusals.{no_refusal, unless, at}
use Rattle.evaluate.specs.Segments.{Assignment}
use Rattle.evaluate.specs.Words.{Read, malformed, got, decode}
use Rattle.evaluate.specs.Check.{assignment_refusal, read_refusal, given_refusal}
use Rattle.words.specs.Inner.{assignment_of, formed, Formed}
use Rattle.words.proofs.Reading.{formed_told}

module _ (p : Panel) (ws : List ℕ) (q : Refusal) where
  pub given_many : 65536 < length ws → q ≡ record { number = 22; place = 0 } → q ≡ given_refusal p ws
  unfolding given_refusal
  given_many lt e = e ∙ rw (lt-leb (length ws) 65536 lt)

  module _ (few : length ws ≤ 65536) where
    read : given_refusal p ws ≡ read_refusal p (decode ws)
    unfolding given_refusal
    read = rw (le-leb (length ws) 65536 few)

    pub given_malformed : (b : Bool) → b ≡ formed (decode ws) → b ≡ false → q ≡ record { number = 22; place = 0 } → q ≡ given_refusal p ws
    given_malformed b f z e = e ∙ sym (read ∙ go (decode ws) (sym f ∙ z))
      where
        go : (d : Read Assignment) → formed d ≡ false → read_refusal p d ≡ record { number = 22; place = 0 }
        go malformed y = refl
        go (got a us) y = let x : ◌≡◌ {A = ℕ} 0 1 = cc in absurd (omega arith)

    pub given_read : Formed ws → q ≡ assignment_refusal p (assignment_of ws) → q ≡ given_refusal p ws
    given_read w e = e ∙ sym (read ∙ ap (read_refusal p) w.said)

-- words that are not refused
pub record Given (p : Panel) (ws : List ℕ) : Type 0 where
  pub few : length ws ≤ 65536
  pub formed : Formed ws
  pub none : (assignment_refusal p (assignment_of ws)).number ≡ 0

pub given : (p : Panel) (ws : List ℕ) → (given_refusal p ws).number ≡ 0 → Given p ws
unfolding given_refusal
given p ws e = go (leb (length ws) 65536) refl e
  where
    read : (x : Read Assignment) → decode ws ≡ x → (read_refusal p x).number ≡ 0 → Formed ws
    read malformed f g = let z : ◌≡◌ {A = ℕ} 22 0 = g in absurd (omega arith)
    read (got a us) f g = formed_told ws true (sym (ap formed f)) refl

    go : (b : Bool) → leb (length ws) 65536 ≡ b → (at (unless b 22 0) 0 (read_refusal p (decode ws))).number ≡ 0 → Given p ws
    go false f g = let z : ◌≡◌ {A = ℕ} 22 0 = g in absurd (omega arith)
    go true f g =
        let w = read (decode ws) refl g in
        record { few = leb-true _ _ f; formed = w; none = ap (λ (x : Read Assignment). (read_refusal p x).number) (sym w.said) ∙ g }

pub given_formed : (p : Panel) (ws : List ℕ) → no_refusal ≡ given_refusal p ws → Formed ws
given_formed p ws e = (given p ws (ap (λ (x : Refusal). x.number) (sym e))).formed

pub ruleset given_steps = (formed_told, given_many, given_malformed, given_read)
