-- Two runs of the search, known by their replies and rooms alone: a larger budget only adds.
use Prim.Native.Nat.{ℕ, suc, ◌+◌, ◌<◌}
use native.Mathlib.Omega.{arith}
use mathlib.Core.Path.{◌≡◌, refl, sym, ap, ◌∙◌, subst}
use mathlib.Core.List.{List, [], ◌∷◌, ◌++◌, append-nil, head-eq_of_cons-eq}
use lib.ListN.{length, take, get_or, length-append}
use lib.Seq.{take-append_seam}
use lib.Ieee.{Float}
use Rattle.image.specs.Panel.{panel_of}
use Rattle.evaluate.specs.Segments.{Assignment}
use Rattle.search.specs.declared.SearchBudget.{SearchBudget}
use Rattle.search.specs.declared.SearchReply.{SearchReply}
use Rattle.search.specs.Keep.{Kept, Evaluated}
use Rattle.search.specs.Rooms.{slot_width}
use Rattle.search.specs.Answers.{Rooms, search_refusal, search_answer, search_rooms}
use Rattle.certificate.specs.Terms.{handed_over, kept_by}
use Rattle.certificate.specs.Slots.{InSlot}
use Rattle.certificate.specs.Larger.{OnlyAdds}
use Rattle.certificate.proofs.Unrefused.{unrefused, none_refuses}
use Rattle.certificate.proofs.Evaluated.{handed_best}
use Rattle.certificate.proofs.Reply.{evaluations_are}
use Rattle.certificate.proofs.Slots.{slot_has, tied_many}
use Rattle.certificate.proofs.Larger.{larger_only_adds}
use Rattle.certificate.specs.Raised.{Raised, Held, Added, RaisedOnlyAdds}

module _ (s : List ℕ) (b c : SearchBudget) (xs : List Float) (rooms others after later : Rooms) (q r : SearchReply) (eq : q ≡ search_answer s b xs rooms) (er : r ≡ search_answer s c xs others)
    (ea : after ≡ search_rooms s b xs rooms) (el : later ≡ search_rooms s c xs others) (raised : Raised b c q r) where
  first : (search_answer s b xs rooms).refusal ≡ 0
  first = ap (λ (a : SearchReply). a.refusal) (sym eq) ∙ raised.first

  second : (search_answer s c xs others).refusal ≡ 0
  second = ap (λ (a : SearchReply). a.refusal) (sym er) ∙ raised.second

  none : (search_refusal s b xs rooms).number ≡ 0
  none = unrefused s b xs rooms first

  nor : (search_refusal s c xs others).number ≡ 0
  nor = unrefused s c xs others second

  adds : OnlyAdds s b c xs q r
  adds = rw (eq, er) (larger_only_adds s b c xs rooms others first second raised.budgets)

  counted : q.evaluations ≡ length (handed_over s b)
  counted = ap (λ (a : SearchReply). a.evaluations) eq ∙ evaluations_are s b xs rooms none

  counted-again : r.evaluations ≡ length (handed_over s c)
  counted-again = ap (λ (a : SearchReply). a.evaluations) er ∙ evaluations_are s c xs others nor

  -- ---- slots

  old-slot : (i : Evaluated) → (kept_by s b xs).best ≡ i ∷ [] → (d : Evaluated) (n : ℕ) → n < length (i ∷ (kept_by s b xs).tied) → InSlot (slot_width (panel_of s) b) after n (get_or (i ∷ (kept_by s b xs).tied) n d)
  old-slot i is d n lt = rw ea (slot_has s b xs rooms none i is d n lt)

  new-slot : (i : Evaluated) → (kept_by s c xs).best ≡ i ∷ [] → (d : Evaluated) (n : ℕ) → n < length (i ∷ (kept_by s c xs).tied) → InSlot (slot_width (panel_of s) c) later n (get_or (i ∷ (kept_by s c xs).tied) n d)
  new-slot i is d n lt = rw el (slot_has s c xs others nor i is d n lt)

  old_many : q.optima ≡ length (kept_by s b xs).tied
  old_many = ap (λ (a : SearchReply). a.optima) eq ∙ tied_many s b xs rooms none

  new_many : r.optima ≡ length (kept_by s c xs).tied
  new_many = ap (λ (a : SearchReply). a.optima) er ∙ tied_many s c xs others nor

  -- ---- what is handed over

  long : length (handed_over s c) ≡ length (handed_over s b) + length adds.more
  long = ap length adds.handed ∙ length-append (handed_over s b) adds.more

  no_more : r.evaluations ≡ q.evaluations → handed_over s c ≡ handed_over s b
  no_more e =
      let n = long in
      let k = counted in
      let m = counted-again in
      adds.handed ∙ ap (λ (l : List Assignment). handed_over s b ++ l) (empty adds.more (omega arith)) ∙ append-nil (handed_over s b)
    where
      empty : (l : List Assignment) → length l ≡ 0 → l ≡ []
      empty [] z = refl
      empty (a ∷ l) z = absurd (let f : ⊥ = omega arith in f)

  held : 0 < q.evaluations → Held s b c xs after later q r
  held some =
      let (i, is) = handed_best s b xs (none_refuses s b xs rooms none).scored (subst (λ (n : ℕ). 0 < n) counted some) in
      let (j, js, worse) = adds.incumbent i is in
      record {
        old = i;
        new = j;
        old_slot = old-slot i is i 0 (omega arith);
        new_slot = new-slot j js j 0 (omega arith);
        no_worse = worse;
        same = λ told. head-eq_of_cons-eq (sym js ∙ adds.best told ∙ is);
        old_tied = (kept_by s b xs).tied;
        new_tied = (kept_by s c xs).tied;
        old_slots = record { many = old_many; slots = λ d n lt. let k = old_many in old-slot i is d (suc n) (omega arith) };
        new_slots = record { many = new_many; slots = λ d n lt. let k = new_many in new-slot j js d (suc n) (omega arith) };
        certified = λ e. ap (λ (k : Kept Evaluated). k.tied) (adds.certified e).kept;
        settled = λ told h. ap (λ (k : Kept Evaluated). k.tied) (adds.settled told h).kept;
        stay = λ h. adds.stay h j js;
        none_lost = λ e. adds.none_lost (no_more e);
      }

  pub added : Added s b c xs after later q r
  added =
      let n = long in
      let k = counted in
      let m = counted-again in
      record {
        counted = counted;
        counted_again = counted-again;
        no_fewer = omega arith;
        handed = sym (ap (λ (i : ℕ). take i (handed_over s c)) counted ∙ ap (take (length (handed_over s b))) adds.handed ∙ take-append_seam (handed_over s b) adds.more);
        held = held;
        exhausted = adds.exhausted;
        counters = adds.counters;
        certified = λ e. (adds.certified e).reply;
        settled = λ told h. (adds.settled told h).reply;
        marked = adds.marked;
      }

pub raised_only_adds : (s : List ℕ) (b c : SearchBudget) (xs : List Float) (rooms others after later : Rooms) (q r : SearchReply) → q ≡ search_answer s b xs rooms → r ≡ search_answer s c xs others
    → after ≡ search_rooms s b xs rooms → later ≡ search_rooms s c xs others → RaisedOnlyAdds s b c xs after later q r
raised_only_adds s b c xs rooms others after later q r eq er ea el raised = added s b c xs rooms others after later q r eq er ea el raised
