-- What a reader finds that stands after some parts of a stream and knows of them only what they tell.
use Rattle.std.specs.Prelude.{ℕ, zero, suc, ◌+◌, ◌==◌, if◌then◌else◌, List, [], ◌++◌, length, take, drop, Option}
use Rattle.std.specs.Prelude.{option_map, option_to_list, unwrap_or}
use Rattle.zre_zmtp.specs.declared.item.Item.{Item}
use Rattle.zre_zmtp.specs.declared.expected.Expected.{Expected}
use Rattle.zre_zmtp.specs.declared.expected.Expected.TheVariants as expect
use Rattle.zre_zmtp.specs.Stream.{Want, Before, opened_with, part_len, item}

-- what comes after the next part
abbrev pub next_expected : Expected → Expected
next_expected expect.Greeting = expect.Ready
next_expected expect.Ready = expect.Traffic
next_expected expect.Traffic = expect.Traffic

-- all that they tell
abbrev pub after : Before → List ℕ → Before
after b part = record {
  expected = next_expected b.expected;
  place = b.place + length part;
  opened = opened_with b.expected b.opened part;
  start = if length (opened_with b.expected b.opened part) == 0 then b.place + length part else b.start;
}

-- the items that are found, what is known after them, and the octets that are left
pub record Found : Type 0 where
  pub given : List Item
  pub before : Before
  pub left : List ℕ

-- the same with an item before
abbrev pub with_item : Option Item → Found → Found
with_item i f = record { given = option_to_list i ++ f.given; before = f.before; left = f.left }

-- what is found in octets, in at most so many parts
unfoldable pub run : Want → ℕ → Before → List ℕ → Found
run want zero b o = record { given = []; before = b; left = o }
run want (suc n) b o =
    unwrap_or (option_map (λ len. with_item (item b (take len o)) (run want n (after b (take len o)) (drop len o)))
    (part_len want b o)) (record { given = []; before = b; left = o })

-- the same of all of the octets
abbrev pub run_all : Want → Before → List ℕ → Found
run_all want b o = run want (length o) b o
