-- The listing makes the search's evaluations.
use Prim.Native.Nat.{ℕ}
use mathlib.Core.Path.{◌≡◌, refl, sym, ap, ◌∙◌}
use mathlib.Core.Bool.{Bool, true, false}
use mathlib.Core.List.{List}
use lib.Dec.{eqb}
use lib.ListN.{length}
use borrow.Author.Tests.{eqb-true}
use Rattle.ground.specs.Lists.{pick}
use Rattle.image.specs.Panel.{panel_of}
use Rattle.evaluate.specs.declared.Refusal.{Refusal}
use Rattle.evaluate.specs.Segments.{flat}
use Rattle.evaluate.specs.Check.{over}
use Rattle.search.specs.declared.SearchBudget.{SearchBudget}
use Rattle.search.specs.declared.ListReply.{ListReply}
use Rattle.search.specs.Run.{walk}
use Rattle.search.specs.Counters.{stop_of, status_of, status_number}
use Rattle.search.specs.Rooms.{left_in}
use Rattle.search.specs.Answers.{ListRooms, list_refusal, refused_list, written, list_reply_of, list_answer, listed_in, list_rooms}
use Rattle.enumeration.proofs.Tally.{walk_tallied}
use Rattle.certificate.specs.Terms.{handed_over}
use Rattle.certificate.specs.Demand3.{ListsTheSame}
use Rattle.certificate.proofs.Unrefused.{unrefused as search-unrefused}
use Rattle.certificate.proofs.Reply.{evaluations_are}

pub unrefused : (s : List ℕ) (b : SearchBudget) (from : ℕ) (rooms : ListRooms) → (list_answer s b from rooms).refusal ≡ 0 → (list_refusal s b rooms).number ≡ 0
unfolding list_answer list_reply_of
unrefused s b from rooms = go (eqb (list_refusal s b rooms).number 0) refl
  where
    r : Refusal
    r = list_refusal s b rooms

    reply : ListReply
    reply = list_reply_of (walk (panel_of s) b) (written from (length rooms.out) (walk (panel_of s) b).walk.out)

    go : (c : Bool) → eqb r.number 0 ≡ c → (pick c reply (refused_list r)).refusal ≡ 0 → r.number ≡ 0
    go true e h = eqb-true r.number 0 e
    go false e h = h

-- of a listing that was not refused
module _ (s : List ℕ) (b : SearchBudget) (from : ℕ) (rooms : ListRooms) (none : (list_answer s b from rooms).refusal ≡ 0) where
  reply_is : list_answer s b from rooms ≡ list_reply_of (walk (panel_of s) b) (written from (length rooms.out) (handed_over s b))
  unfolding list_answer
  reply_is = rw (unrefused s b from rooms none)

  pub evaluations_listed : (list_answer s b from rooms).evaluations ≡ length (handed_over s b)
  unfolding list_reply_of
  evaluations_listed = ap (λ (r : ListReply). r.evaluations) reply_is ∙ walk_tallied (panel_of s) b

  pub written_are : (list_answer s b from rooms).written ≡ length (written from (length rooms.out) (handed_over s b))
  unfolding list_reply_of
  written_are = ap (λ (r : ListReply). r.written) reply_is

  pub words_are : (list_answer s b from rooms).words ≡ length (flat (written from (length rooms.out) (handed_over s b)))
  unfolding list_reply_of
  words_are = ap (λ (r : ListReply). r.words) reply_is

  pub status-is : (list_answer s b from rooms).status ≡ status_number (status_of (stop_of (walk (panel_of s) b).ending) false)
  unfolding list_reply_of
  status-is = ap (λ (r : ListReply). r.status) reply_is

  pub out_is : (list_rooms s b from rooms).out ≡ over (flat (written from (length rooms.out) (handed_over s b))) rooms.out
  unfolding list_rooms listed_in left_in
  out_is = rw (unrefused s b from rooms none)

pub lists_the_same : ListsTheSame
lists_the_same s b xs rooms from lent h k =
    record {
      many = evaluations_listed s b from lent k ∙ sym (evaluations_are s b xs rooms (search-unrefused s b xs rooms h));
      numbered = evaluations_listed s b from lent k;
      wrote = written_are s b from lent k;
      words = out_is s b from lent k;
    }
