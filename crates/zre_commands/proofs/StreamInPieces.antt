-- A stream that is read in pieces.
use Rattle.std.proofs.Common.{◌≡◌, ℕ, false, true, List, [], ◌++◌, Option, sym, ap, ◌∙◌, true≢false}
use Rattle.std.specs.Prelude.{is_some}
use Rattle.zre_zmtp.specs.Reading.{Reading, Reads, new_items}
use Rattle.zre_zmtp.specs.Stream.{Kind, fault}
use Rattle.zre_zmtp.specs.declared.want.Want.TheVariants.{Any}
use Rattle.zre_zmtp.specs.declared.fault.ZmtpFault.{ZmtpFault}
use Rattle.zre_zmtp.specs.declared.item.Item.{Item}
use Rattle.zre_commands.specs.Stream.{HasRead, ReadPiece}
use Rattle.zre_capture.proofs.LineByLine.{none_is}

-- where no fault was found the reader stands after the octets
pub going_reads : (kind : Kind) (o : List ℕ) (found : Option ZmtpFault) (reader : Reading) → HasRead kind o found reader → is_some (fault Any kind o) ≡ false → Reads Any kind o reader
going_reads kind o found reader h going = h.reads (h.faulty ∙ none_is (fault Any kind o) going)

-- and isn't spent
pub not_spent : {A : Type 0} (kind : Kind) (o : List ℕ) (found : Option ZmtpFault) (reader : Reading) → HasRead kind o found reader → is_some (fault Any kind o) ≡ false → reader.spent ≡ true → A
not_spent kind o found reader h going spent = absurd (true≢false (sym spent ∙ (going_reads kind o found reader h going).unspent))

-- where no items stood before a piece, those that were read are the new ones
pub items_are : (kind : Kind) (o x : List ℕ) (found : Option ZmtpFault) (reader : Reading) (before items : List Item) → before ≡ [] → ReadPiece kind o x found reader before items → items ≡ new_items Any kind o x
items_are kind o x found reader before items none r = r.appended ∙ ap (λ is. is ++ new_items Any kind o x) none
