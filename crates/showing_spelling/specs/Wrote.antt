-- A text written in a room: it stands before the place that the room had, in the same buffer.
use Rattle.std.specs.Prelude.{◌≡◌, refl, List, [], ◌++◌, ℕ, ◌-◌, ◌≤◌, length}
use Rattle.std.proofs.Common.{◌∙◌}
use Rattle.showing_spelling.specs.declared.room.Room.{Room}
use Rattle.showing_spelling.specs.Put.{Put, put_none, put_as, and_before, put_over, put_shorter}
use Rattle.showing_spelling.specs.Spelling.{shorter}

pub record Wrote (old : Room) (text : List ℕ) (new : Room) : Type 0 where
  pub put : Put old.out.now new.out.now old.at text new.at
  pub same : new.out.ghost_name ≡ old.out.ghost_name

-- Nothing is written.
pub wrote_none : (a : Room) → Wrote a [] a
wrote_none a = record { put = put_none a.out.now a.at; same = refl }

-- A write, with its text said another way.
pub wrote_as : {a b : Room} {x y : List ℕ} → Wrote a x b → x ≡ y → Wrote a y b
wrote_as p e = record { put = put_as p.put e; same = p.same }

-- A second write before the first: both are one write of the two texts.
pub wrote_before : {a b c : Room} {x y : List ℕ} → Wrote a x b → Wrote b y c → Wrote a (y ++ x) c
wrote_before p q = record { put = and_before p.put q.put; same = q.same ∙ p.same }

-- A second write over the first, from the same place.
pub wrote_over : {a b b' c : Room} {x y : List ℕ} → Wrote a x b → b'.out ≡ b.out → b'.at ≡ a.at → Wrote b' y c → Wrote a y c
wrote_over {c = c} {y = y} p o e q =
    let over = rw (o, e) at q.put in
    record { put = put_over p.put over; same = rw o at q.same ∙ p.same }

-- Of two texts the one that leaves the higher place is the shorter.
pub wrote_shorter : {a b : Room} {x : List ℕ} (y : List ℕ) (n : ℕ) → Wrote a x b → n ≡ a.at - length y → n ≤ b.at
    → Wrote a (shorter x y) b
wrote_shorter y n p e h = record { put = put_shorter y n p.put e h; same = p.same }
