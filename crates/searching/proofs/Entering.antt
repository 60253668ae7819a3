-- One evaluation, from the words in the spare to what is kept and counted.
use Prim.Native.Nat.{ℕ, suc, ◌+◌, ◌-◌, ◌*◌, ◌≤◌}
use native.Mathlib.Nat.{add-mul, one-mul}
use native.Mathlib.Omega.{arith}
use mathlib.Core.Path.{◌≡◌, refl, sym, ap, ◌∙◌}
use mathlib.Core.Bool.{true}
use mathlib.Core.List.{List, [], ◌∷◌, map}
use lib.ListN.{length, take, drop, length-map}
use lib.Seq.{take_at}
use lib.Ieee.{Float}
use borrow.Rule.Slice.PartMut.{put_mid, mid_of}
use Rattle.image.specs.declared.Header.{Header}
use Rattle.image.specs.declared.Family.{Family}
use Rattle.image.specs.Inner.{Groups}
use Rattle.image.specs.Panel.{Panel, panel_of, paths_at}
use Rattle.image.proofs.Laws.{family_length}
use Rattle.panel.specs.Inner.{Accepted}
use Rattle.std.specs.declared.option.Option.{Option}
use Rattle.evaluate.specs.Segments.{Assignment, native_of, whole, flat}
use Rattle.evaluate.specs.Words.{got, encode}
use Rattle.evaluate.proofs.RoundTrips.{decode_encode}
use Rattle.search.specs.declared.SearchBudget.{SearchBudget}
use Rattle.enumeration.proofs.Room.{encode_length}
use Rattle.advance.proofs.Laws.{paths_are}
use Rattle.words.specs.Inner.{assignment_of, Formed}
use Rattle.words.proofs.Reading.{formed_told}
use Rattle.marks.specs.declared.Marks.{Marks}
use Rattle.marks.specs.Inner.{marks_of}
use Rattle.kept.specs.declared.Holding.{Holding}
use Rattle.kept.specs.Inner.{Tidy, Ready}
use Rattle.kept.proofs.Spare.{written, written_tidy}
use Rattle.kept.proofs.Lent.{lent_keeps, lent_left}
use Rattle.writer.specs.Inner.{Written}
use Rattle.searching.specs.declared.Account.{Account}
use Rattle.searching.specs.Inner.{marked_with, Marked, Settled, Entered}

-- ---- the score

-- ---- the counters

-- ---- the words

encode_formed : (a : Assignment) → Formed (encode a)
encode_formed a = formed_told (encode a) true (rw decode_encode) refl

assignment_is : {X : Type 0} {a b : X} {us vs : List ℕ} → got a us ≡ got b vs → a ≡ b
assignment_is e = cc

encoded : (a : Assignment) → assignment_of (encode a) ≡ a
encoded a = assignment_is (sym (encode_formed a).said ∙ decode_encode a)

module _ (a : Assignment) {xs ys : List ℕ} {n : ℕ} (w : Written (encode a) xs ys n) where
  words_are : take n ys ≡ encode a
  words_are = rw w.room (take_at (encode a) (drop (length (encode a)) xs) n (sym w.count))

  pub words_formed : Formed (take n ys)
  words_formed = rw words_are (encode_formed a)

  pub words_marked : (p : Panel) (r : Marks) → r ≡ marks_of p (assignment_of (take n ys)) → Marked p a xs ys r
  words_marked p r e = record { room = w.room; marks = e ∙ ap (marks_of p) (ap assignment_of words_are ∙ encoded a) }

pieces : (p : Panel) (l : List ℕ) → length (flat (map (whole p) l)) ≡ length l
pieces p [] = refl
pieces p (x ∷ l) = ap suc (pieces p l)

pub native_room : (s : List ℕ) (h : Header) (f : Family) (n : ℕ) → Accepted s h → Groups s h f → length (encode (native_of (panel_of s) f.number)) ≤ n → 2 + 5 * f.count ≤ n
native_room s h f n acc g l =
    let e = encode_length (native_of (panel_of s) f.number) in
    let m : length (map (whole (panel_of s)) (paths_at (panel_of s) f.number)) ≡ length (paths_at (panel_of s) f.number) = length-map (paths_at (panel_of s) f.number) (whole (panel_of s)) in
    let q = pieces (panel_of s) (paths_at (panel_of s) f.number) in
    let c : length (paths_at (panel_of s) f.number) ≡ f.count = ap length (paths_are s h f.number acc.counted.framed) ∙ family_length s h f g in
    omega arith

-- ---- the spare

module _ (b : SearchBudget) (v : ℕ) {held : Option Holding} {xs : List ℕ} {ss : List Float} (a : Assignment) (h : Ready v b.max_optima held xs ss) (l : length (encode a) ≤ v) where
  room : (b.max_optima + 1) * v + v ≤ length xs
  room = rw (add-mul, one-mul) h.tidy.longx

  module _ (p : Panel) {ys : List ℕ} {m : Marks} (k : Marked p a (mid_of ((b.max_optima + 1) * v) (length xs - (b.max_optima + 1) * v) xs) ys m) where
    pub spare_tidy : Tidy v b.max_optima held (put_mid ((b.max_optima + 1) * v) (length xs - (b.max_optima + 1) * v) xs ys) ss
    spare_tidy =
        let r = room in
        rw (written v b.max_optima (length xs - (b.max_optima + 1) * v) xs (encode a) ys h.spare l (omega arith) (omega arith) k.room) (written_tidy (encode a) h l)

module _ (p : Panel) (b : SearchBudget) (v : ℕ) (score : Float) (a : Assignment) {from r : Account} {xs ys zs : List ℕ} {ss ts : List Float} {m : Marks}
    (h : Ready v b.max_optima from.held xs ss) (l : length (encode a) ≤ v)
    (k : Marked p a (mid_of ((b.max_optima + 1) * v) (length xs - (b.max_optima + 1) * v) xs) ys m)
    (s : Settled b v m score from (put_mid ((b.max_optima + 1) * v) (length xs - (b.max_optima + 1) * v) xs ys) ss zs ts r) where
  wide : v ≤ length xs - (b.max_optima + 1) * v
  wide = let q = room b v a h l in omega arith

  all : (b.max_optima + 1) * v + (length xs - (b.max_optima + 1) * v) ≤ length xs
  all = let q = room b v a h l in omega arith

  pub entered : Entered p b v score a from xs ss zs ts r
  unfolding marks_of
  entered =
      record {
        keeps = λ t e. rw s.holds (lent_keeps (length xs - (b.max_optima + 1) * v) e wide all a l k.room s.recorded);
        left = λ t e. lent_left (length xs - (b.max_optima + 1) * v) e wide all a l k.room s.recorded;
        counted = s.counted ∙ ap (marked_with from.counted) k.marks;
      }
