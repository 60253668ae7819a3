-- For the reader: two outcomes that a promise allows are equal, refusals included, since each promise is an equation of the whole reply.
use Prim.Native.Nat.{ℕ}
use mathlib.Core.Path.{◌≡◌, sym, ◌∙◌}
use mathlib.Core.Bool.{Bool}
use mathlib.Core.List.{List}
use lib.ListN.{length}
use lib.Ieee.{Float}
use Rattle.bound.specs.declared.BoundReply.{BoundReply}
use Rattle.bound.specs.Bound.{lower_bound}
use Rattle.engine.specs.declared.PlainReply.{PlainReply}
use Rattle.engine.specs.Answer.{plain_answer, plain_out}
use Rattle.evaluate.specs.declared.AssignmentReply.{AssignmentReply}
use Rattle.evaluate.specs.Check.{check_answer, check_out}
use Rattle.graph.specs.Check.{checked}
use Rattle.graph.specs.Lookups.{port_answer, bucket_answer}
use Rattle.search.specs.declared.SearchBudget.{SearchBudget}
use Rattle.search.specs.declared.SearchReply.{SearchReply}
use Rattle.search.specs.declared.ListReply.{ListReply}
use Rattle.search.specs.Answers.{Rooms, ListRooms, search_answer, search_rooms, list_answer, list_rooms}
use Rattle.letters.specs.Letters.{letters_answer}
use Rattle.spell.specs.declared.SpellReply.{SpellReply}
use Rattle.spell.specs.Spelling.{spell_answer, spell_out}
use Rattle.bed.specs.declared.BedReply.{BedReply}
use Rattle.bed.specs.Answers.{write_answer, write_out, read_answer, read_out}
use Rattle.panel_routes.specs.Replies.{panel_reply, port_reply, bucket_reply, letters_reply}
use Rattle.panel_routes.specs.declared.PanelReply.{PanelReply}
use Rattle.panel_routes.specs.declared.PortReply.{PortReply}
use Rattle.panel_routes.specs.declared.BucketReply.{BucketReply}

-- what is the same as one thing is the same
one : {A : Type 0} {a b c : A} → a ≡ c → b ≡ c → a ≡ b
one p q = p ∙ sym q

pub panel_one : (s : List ℕ) (q r : PanelReply) → q ≡ panel_reply (checked s) → r ≡ panel_reply (checked s) → q ≡ r
panel_one s q r = one

pub port_one : (s : List ℕ) (lane cut : ℕ) (reverse : Bool) (q r : PortReply) → q ≡ port_reply (port_answer s lane cut reverse) → r ≡ port_reply (port_answer s lane cut reverse) → q ≡ r
port_one s lane cut reverse q r = one

pub bucket_one : (s w : List ℕ) (q r : BucketReply) → q ≡ bucket_reply (bucket_answer s w) → r ≡ bucket_reply (bucket_answer s w) → q ≡ r
bucket_one s w q r = one

-- the reply of the assignment check, and out afterwards
pub check_one : (s ws out : List ℕ) (q r : AssignmentReply) → q ≡ check_answer s ws (length out) → r ≡ check_answer s ws (length out) → q ≡ r
check_one s ws out q r = one

pub out_one : (s ws out xs ys : List ℕ) → xs ≡ check_out s ws out → ys ≡ check_out s ws out → xs ≡ ys
out_one s ws out xs ys = one

-- the reply of the listing, and its rooms afterwards
pub list_one : (s : List ℕ) (b : SearchBudget) (from : ℕ) (rooms : ListRooms) (q r : ListReply) → q ≡ list_answer s b from rooms → r ≡ list_answer s b from rooms → q ≡ r
list_one s b from rooms q r = one

pub list_rooms_one : (s : List ℕ) (b : SearchBudget) (from : ℕ) (rooms x y : ListRooms) → x ≡ list_rooms s b from rooms → y ≡ list_rooms s b from rooms → x ≡ y
list_rooms_one s b from rooms x y = one

-- the reply of the search, and its rooms afterwards
pub search_one : (s : List ℕ) (b : SearchBudget) (xs : List Float) (rooms : Rooms) (q r : SearchReply) → q ≡ search_answer s b xs rooms → r ≡ search_answer s b xs rooms → q ≡ r
search_one s b xs rooms q r = one

pub search_rooms_one : (s : List ℕ) (b : SearchBudget) (xs : List Float) (rooms x y : Rooms) → x ≡ search_rooms s b xs rooms → y ≡ search_rooms s b xs rooms → x ≡ y
search_rooms_one s b xs rooms x y = one

-- the reply of the lower bound
pub bound_one : (counts : List ℕ) (background : Float) (q r : BoundReply) → q ≡ lower_bound counts background → r ≡ lower_bound counts background → q ≡ r
bound_one counts background q r = one

-- the reply of the plain engine, and out afterwards
pub plain_one : (s : List ℕ) (from room : ℕ) (q r : PlainReply) → q ≡ plain_answer s from room → r ≡ plain_answer s from room → q ≡ r
plain_one s from room q r = one

pub plain_out_one : (s : List ℕ) (from : ℕ) (out xs ys : List ℕ) → xs ≡ plain_out s from out → ys ≡ plain_out s from out → xs ≡ ys
plain_out_one s from out xs ys = one

-- the reply of the letters' check
pub letters_one : (s d : List ℕ) (q r : PanelReply) → q ≡ letters_reply (letters_answer s d) → r ≡ letters_reply (letters_answer s d) → q ≡ r
letters_one s d q r = one

-- the reply of spelling, and out afterwards
pub spell_one : (s d ws : List ℕ) (slot from to room : ℕ) (q r : SpellReply) → q ≡ spell_answer s d ws slot from to room → r ≡ spell_answer s d ws slot from to room → q ≡ r
spell_one s d ws slot from to room q r = one

pub spell_out_one : (s d ws : List ℕ) (slot from to : ℕ) (out xs ys : List ℕ) → xs ≡ spell_out s d ws slot from to out → ys ≡ spell_out s d ws slot from to out → xs ≡ ys
spell_out_one s d ws slot from to out xs ys = one

-- the replies of writing and reading BED, and out afterwards
pub write_one : (s names ws : List ℕ) (room : ℕ) (q r : BedReply) → q ≡ write_answer s names ws room → r ≡ write_answer s names ws room → q ≡ r
write_one s names ws room q r = one

pub write_out_one : (s names ws out xs ys : List ℕ) → xs ≡ write_out s names ws out → ys ≡ write_out s names ws out → xs ≡ ys
write_out_one s names ws out xs ys = one

pub read_one : (s names : List ℕ) (family : ℕ) (text : List ℕ) (room : ℕ) (q r : BedReply) → q ≡ read_answer s names family text room → r ≡ read_answer s names family text room → q ≡ r
read_one s names family text room q r = one

pub read_out_one : (s names : List ℕ) (family : ℕ) (text out xs ys : List ℕ) → xs ≡ read_out s names family text out → ys ≡ read_out s names family text out → xs ≡ ys
read_out_one s names family text out xs ys = one
