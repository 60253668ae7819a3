-- What the plain engine's call answers, and out at exit (02, item 10).
use Rattle.std.specs.Prelude.{ℕ, ◌<◌, ◌≡◌, ◌⊎◌, ◌↔◌, List, ◌++◌, eqb, length}
use Rattle.ground.specs.Lists.{pick}
use Rattle.image.specs.Panel.{panel_of}
use Rattle.graph.specs.Check.{panel_refusal}
use Rattle.evaluate.specs.declared.Refusal.{Refusal}
use Rattle.evaluate.specs.Segments.{Assignment, flat}
use Rattle.evaluate.specs.Check.{over}
use Rattle.search.specs.Answers.{written}
use Rattle.search.specs.Run.{Unbudgeted, natives_of}
use Rattle.plain.specs.Steps.{depth, plain_list, plain_refusal}
use Rattle.plain.specs.Statement.{deepest_of, EachLegalOnce}
use Rattle.engine.specs.declared.PlainReply.{PlainReply}

-- these were written
abbrev pub wrote : List (List ℕ) → PlainReply
wrote ws = record { refusal = 0; place = 0; written = length ws; words = length (flat ws) }

abbrev pub refused_plain : Refusal → PlainReply
refused_plain r = record { refusal = r.number; place = r.place; written = 0; words = 0 }

-- "under the listing call's rule on from and room. It answers how many it wrote and their words": the panel's bytes, how many to skip, the words of room in out
unfoldable pub plain_answer : List ℕ → ℕ → ℕ → PlainReply
plain_answer s from room =
    pick (eqb (plain_refusal s).number 0) (wrote (written from room (plain_list (panel_of s)))) (refused_plain (plain_refusal s))

-- out at exit: what is written goes over its beginning, and a refusal leaves it unchanged
unfoldable pub plain_out : List ℕ → ℕ → List ℕ → List ℕ
plain_out s from out = pick (eqb (plain_refusal s).number 0) (over (flat (written from (length out) (plain_list (panel_of s)))) out) out

-- ---- what a reply says, in the words of the walk and of legality alone

-- a reply that is no refusal: of all legal assignments, in the walk's order, those from number from + 1 on are written, until one doesn't fit
pub record ListsFrom (s : List ℕ) (from : ℕ) (out : List ℕ) (r : PlainReply) (out' : List ℕ) : Type 0 where
  pub all : List Assignment
  pub walked : (u : Unbudgeted (panel_of s)) → u.final.out ≡ natives_of (panel_of s) ++ all
  pub each : EachLegalOnce (panel_of s) all
  pub many : r.written ≡ length (written from (length out) all)
  pub words : r.words ≡ length (flat (written from (length out) all))
  pub room : out' ≡ over (flat (written from (length out) all)) out

-- of the panel's bytes, how many to skip, out at entry, the reply and out at exit
pub record PlainHolds (s : List ℕ) (from : ℕ) (out : List ℕ) (r : PlainReply) (out' : List ℕ) : Type 0 where
  -- 1 to 8 as the panel check gives them; of a panel that passes, 42 or none
  pub unsound : (panel_refusal s ≡ 0 → ⊥) → r.refusal ≡ panel_refusal s
  pub sound : panel_refusal s ≡ 0 → (r.refusal ≡ 0) ⊎ (r.refusal ≡ 42)
  -- there is such a walk; "42 exactly when that depth is over 64"
  pub ends : panel_refusal s ≡ 0 → Unbudgeted (panel_of s)
  pub deep : panel_refusal s ≡ 0 → (u : Unbudgeted (panel_of s)) → (r.refusal ≡ 42) ↔ (depth < deepest_of (panel_of s) u)
  -- "with out unchanged"
  pub refused : (r.refusal ≡ 0 → ⊥) → (out' ≡ out) × (r.written ≡ 0) × (r.words ≡ 0)
  pub lists : r.refusal ≡ 0 → ListsFrom s from out r out'
  pub place : r.place ≡ 0
