-- Small streams, computed.
use Rattle.std.proofs.Common.{◌≡◌, [], ◌∷◌, Some, None, refl, codes}
use Rattle.zre_zmtp.specs.declared.fault.ZmtpWhy.TheVariants as why
use Rattle.zre_zmtp.specs.declared.item.What.TheVariants.{Greeting, Ready, Command, Message}
use Rattle.zre_zmtp.specs.Stream.{Any, Router, Dealer, Whole, Traffic, items, fault, split, cut, part_len, frame_why, greeting_fault, item}
use Rattle.zre_zmtp.specs.Ready.{properties_within}

half_a_header-items : items Any Traffic (2 ∷ 0 ∷ 0 ∷ 0 ∷ 0 ∷ 0 ∷ []) ≡ []
unfolding cut part_len frame_why greeting_fault item properties_within
half_a_header-items = refl

half_a_header-fault : fault Any Traffic (2 ∷ 0 ∷ 0 ∷ 0 ∷ 0 ∷ 0 ∷ []) ≡ None
unfolding cut part_len frame_why greeting_fault item properties_within
half_a_header-fault = refl

half_a_header-left : (split Any Traffic (2 ∷ 0 ∷ 0 ∷ 0 ∷ 0 ∷ 0 ∷ [])).1 ≡ 2 ∷ 0 ∷ 0 ∷ 0 ∷ 0 ∷ 0 ∷ []
unfolding cut part_len frame_why greeting_fault item properties_within
half_a_header-left = refl

bad_flags : fault Any Traffic (5 ∷ []) ≡ Some (record { why = why.Flags; place = 0 })
unfolding cut part_len frame_why greeting_fault item properties_within
bad_flags = refl

long_abc : items Any Traffic (2 ∷ 0 ∷ 0 ∷ 0 ∷ 0 ∷ 0 ∷ 0 ∷ 0 ∷ 3 ∷ 97 ∷ 98 ∷ 99 ∷ []) ≡ record { start = 0; end = 12; what = Message ((97 ∷ 98 ∷ 99 ∷ []) ∷ []) } ∷ []
unfolding cut part_len frame_why greeting_fault item properties_within
long_abc = refl

too_large : fault Any Traffic (2 ∷ 0 ∷ 0 ∷ 0 ∷ 0 ∷ 0 ∷ 16 ∷ 0 ∷ 1 ∷ []) ≡ Some (record { why = why.TooLarge; place = 0 })
unfolding cut part_len frame_why greeting_fault item properties_within
too_large = refl

at_the_limit : fault Any Traffic (2 ∷ 0 ∷ 0 ∷ 0 ∷ 0 ∷ 0 ∷ 16 ∷ 0 ∷ 0 ∷ []) ≡ None
unfolding cut part_len frame_why greeting_fault item properties_within
at_the_limit = refl

three : items Any Traffic (0 ∷ 40 ∷ 170 ∷ 161 ∷ 1 ∷ 2 ∷ 0 ∷ 1 ∷ 20 ∷ 116 ∷ 99 ∷ 112 ∷ 58 ∷ 47 ∷ 47 ∷ 49 ∷ 48 ∷ 46 ∷ 48 ∷ 46 ∷ 48 ∷ 46 ∷ 50 ∷ 58 ∷ 52 ∷ 57 ∷ 49 ∷ 53 ∷ 50 ∷ 0 ∷ 0 ∷ 0 ∷ 0 ∷ 0 ∷ 3 ∷ 65 ∷ 110 ∷ 110 ∷ 0 ∷ 0 ∷ 0 ∷ 0 ∷ 0 ∷ 6 ∷ 170 ∷ 161 ∷ 9 ∷ 2 ∷ 0 ∷ 2 ∷ 0 ∷ 12 ∷ 170 ∷ 161 ∷ 4 ∷ 2 ∷ 0 ∷ 3 ∷ 4 ∷ 99 ∷ 104 ∷ 97 ∷ 116 ∷ 1 ∷ []) ≡ record { start = 0; end = 42; what = Message ((170 ∷ 161 ∷ 1 ∷ 2 ∷ 0 ∷ 1 ∷ 20 ∷ 116 ∷ 99 ∷ 112 ∷ 58 ∷ 47 ∷ 47 ∷ 49 ∷ 48 ∷ 46 ∷ 48 ∷ 46 ∷ 48 ∷ 46 ∷ 50 ∷ 58 ∷ 52 ∷ 57 ∷ 49 ∷ 53 ∷ 50 ∷ 0 ∷ 0 ∷ 0 ∷ 0 ∷ 0 ∷ 3 ∷ 65 ∷ 110 ∷ 110 ∷ 0 ∷ 0 ∷ 0 ∷ 0 ∷ []) ∷ []) } ∷ record { start = 42; end = 50; what = Message ((170 ∷ 161 ∷ 9 ∷ 2 ∷ 0 ∷ 2 ∷ []) ∷ []) } ∷ record { start = 50; end = 64; what = Message ((170 ∷ 161 ∷ 4 ∷ 2 ∷ 0 ∷ 3 ∷ 4 ∷ 99 ∷ 104 ∷ 97 ∷ 116 ∷ 1 ∷ []) ∷ []) } ∷ []
unfolding cut part_len frame_why greeting_fault item properties_within
three = refl

shown : items Any Whole (255 ∷ 0 ∷ 0 ∷ 0 ∷ 0 ∷ 0 ∷ 0 ∷ 0 ∷ 0 ∷ 127 ∷ 3 ∷ 0 ∷ 78 ∷ 85 ∷ 76 ∷ 76 ∷ 0 ∷ 0 ∷ 0 ∷ 0 ∷ 0 ∷ 0 ∷ 0 ∷ 0 ∷ 0 ∷ 0 ∷ 0 ∷ 0 ∷ 0 ∷ 0 ∷ 0 ∷ 0 ∷ 0 ∷ 0 ∷ 0 ∷ 0 ∷ 0 ∷ 0 ∷ 0 ∷ 0 ∷ 0 ∷ 0 ∷ 0 ∷ 0 ∷ 0 ∷ 0 ∷ 0 ∷ 0 ∷ 0 ∷ 0 ∷ 0 ∷ 0 ∷ 0 ∷ 0 ∷ 0 ∷ 0 ∷ 0 ∷ 0 ∷ 0 ∷ 0 ∷ 0 ∷ 0 ∷ 0 ∷ 0 ∷ 4 ∷ 58 ∷ 5 ∷ 82 ∷ 69 ∷ 65 ∷ 68 ∷ 89 ∷ 11 ∷ 83 ∷ 111 ∷ 99 ∷ 107 ∷ 101 ∷ 116 ∷ 45 ∷ 84 ∷ 121 ∷ 112 ∷ 101 ∷ 0 ∷ 0 ∷ 0 ∷ 6 ∷ 68 ∷ 69 ∷ 65 ∷ 76 ∷ 69 ∷ 82 ∷ 8 ∷ 73 ∷ 100 ∷ 101 ∷ 110 ∷ 116 ∷ 105 ∷ 116 ∷ 121 ∷ 0 ∷ 0 ∷ 0 ∷ 17 ∷ 1 ∷ 0 ∷ 1 ∷ 2 ∷ 3 ∷ 4 ∷ 5 ∷ 6 ∷ 7 ∷ 8 ∷ 9 ∷ 10 ∷ 11 ∷ 12 ∷ 13 ∷ 14 ∷ 15 ∷ 0 ∷ 40 ∷ 170 ∷ 161 ∷ 1 ∷ 2 ∷ 0 ∷ 1 ∷ 20 ∷ 116 ∷ 99 ∷ 112 ∷ 58 ∷ 47 ∷ 47 ∷ 49 ∷ 48 ∷ 46 ∷ 48 ∷ 46 ∷ 48 ∷ 46 ∷ 50 ∷ 58 ∷ 52 ∷ 57 ∷ 49 ∷ 53 ∷ 50 ∷ 0 ∷ 0 ∷ 0 ∷ 0 ∷ 0 ∷ 3 ∷ 65 ∷ 110 ∷ 110 ∷ 0 ∷ 0 ∷ 0 ∷ 0 ∷ []) ≡ record { start = 0; end = 64; what = Greeting 3 0 } ∷ record { start = 64; end = 124; what = Ready 58 (Some (codes "DEALER")) (Some (1 ∷ 0 ∷ 1 ∷ 2 ∷ 3 ∷ 4 ∷ 5 ∷ 6 ∷ 7 ∷ 8 ∷ 9 ∷ 10 ∷ 11 ∷ 12 ∷ 13 ∷ 14 ∷ 15 ∷ [])) } ∷ record { start = 124; end = 166; what = Message ((170 ∷ 161 ∷ 1 ∷ 2 ∷ 0 ∷ 1 ∷ 20 ∷ 116 ∷ 99 ∷ 112 ∷ 58 ∷ 47 ∷ 47 ∷ 49 ∷ 48 ∷ 46 ∷ 48 ∷ 46 ∷ 48 ∷ 46 ∷ 50 ∷ 58 ∷ 52 ∷ 57 ∷ 49 ∷ 53 ∷ 50 ∷ 0 ∷ 0 ∷ 0 ∷ 0 ∷ 0 ∷ 3 ∷ 65 ∷ 110 ∷ 110 ∷ 0 ∷ 0 ∷ 0 ∷ 0 ∷ []) ∷ []) } ∷ []
unfolding cut part_len frame_why greeting_fault item properties_within
shown = refl

own_identity : fault (Dealer (record { 0 = 0 ∷ 1 ∷ 2 ∷ 3 ∷ 4 ∷ 5 ∷ 6 ∷ 7 ∷ 8 ∷ 9 ∷ 10 ∷ 11 ∷ 12 ∷ 13 ∷ 14 ∷ 15 ∷ [] })) Whole (255 ∷ 0 ∷ 0 ∷ 0 ∷ 0 ∷ 0 ∷ 0 ∷ 0 ∷ 0 ∷ 127 ∷ 3 ∷ 0 ∷ 78 ∷ 85 ∷ 76 ∷ 76 ∷ 0 ∷ 0 ∷ 0 ∷ 0 ∷ 0 ∷ 0 ∷ 0 ∷ 0 ∷ 0 ∷ 0 ∷ 0 ∷ 0 ∷ 0 ∷ 0 ∷ 0 ∷ 0 ∷ 0 ∷ 0 ∷ 0 ∷ 0 ∷ 0 ∷ 0 ∷ 0 ∷ 0 ∷ 0 ∷ 0 ∷ 0 ∷ 0 ∷ 0 ∷ 0 ∷ 0 ∷ 0 ∷ 0 ∷ 0 ∷ 0 ∷ 0 ∷ 0 ∷ 0 ∷ 0 ∷ 0 ∷ 0 ∷ 0 ∷ 0 ∷ 0 ∷ 0 ∷ 0 ∷ 0 ∷ 0 ∷ 4 ∷ 58 ∷ 5 ∷ 82 ∷ 69 ∷ 65 ∷ 68 ∷ 89 ∷ 11 ∷ 83 ∷ 111 ∷ 99 ∷ 107 ∷ 101 ∷ 116 ∷ 45 ∷ 84 ∷ 121 ∷ 112 ∷ 101 ∷ 0 ∷ 0 ∷ 0 ∷ 6 ∷ 68 ∷ 69 ∷ 65 ∷ 76 ∷ 69 ∷ 82 ∷ 8 ∷ 73 ∷ 100 ∷ 101 ∷ 110 ∷ 116 ∷ 105 ∷ 116 ∷ 121 ∷ 0 ∷ 0 ∷ 0 ∷ 17 ∷ 1 ∷ 0 ∷ 1 ∷ 2 ∷ 3 ∷ 4 ∷ 5 ∷ 6 ∷ 7 ∷ 8 ∷ 9 ∷ 10 ∷ 11 ∷ 12 ∷ 13 ∷ 14 ∷ 15 ∷ []) ≡ Some (record { why = why.Identity; place = 64 })
unfolding cut part_len frame_why greeting_fault item properties_within
own_identity = refl

router : fault Router Whole (255 ∷ 0 ∷ 0 ∷ 0 ∷ 0 ∷ 0 ∷ 0 ∷ 0 ∷ 0 ∷ 127 ∷ 3 ∷ 0 ∷ 78 ∷ 85 ∷ 76 ∷ 76 ∷ 0 ∷ 0 ∷ 0 ∷ 0 ∷ 0 ∷ 0 ∷ 0 ∷ 0 ∷ 0 ∷ 0 ∷ 0 ∷ 0 ∷ 0 ∷ 0 ∷ 0 ∷ 0 ∷ 0 ∷ 0 ∷ 0 ∷ 0 ∷ 0 ∷ 0 ∷ 0 ∷ 0 ∷ 0 ∷ 0 ∷ 0 ∷ 0 ∷ 0 ∷ 0 ∷ 0 ∷ 0 ∷ 0 ∷ 0 ∷ 0 ∷ 0 ∷ 0 ∷ 0 ∷ 0 ∷ 0 ∷ 0 ∷ 0 ∷ 0 ∷ 0 ∷ 0 ∷ 0 ∷ 0 ∷ 0 ∷ 4 ∷ 58 ∷ 5 ∷ 82 ∷ 69 ∷ 65 ∷ 68 ∷ 89 ∷ 11 ∷ 83 ∷ 111 ∷ 99 ∷ 107 ∷ 101 ∷ 116 ∷ 45 ∷ 84 ∷ 121 ∷ 112 ∷ 101 ∷ 0 ∷ 0 ∷ 0 ∷ 6 ∷ 68 ∷ 69 ∷ 65 ∷ 76 ∷ 69 ∷ 82 ∷ 8 ∷ 73 ∷ 100 ∷ 101 ∷ 110 ∷ 116 ∷ 105 ∷ 116 ∷ 121 ∷ 0 ∷ 0 ∷ 0 ∷ 17 ∷ 1 ∷ 0 ∷ 1 ∷ 2 ∷ 3 ∷ 4 ∷ 5 ∷ 6 ∷ 7 ∷ 8 ∷ 9 ∷ 10 ∷ 11 ∷ 12 ∷ 13 ∷ 14 ∷ 15 ∷ []) ≡ Some (record { why = why.SocketType; place = 64 })
unfolding cut part_len frame_why greeting_fault item properties_within
router = refl

other_mechanism : fault Any Whole (255 ∷ 0 ∷ 0 ∷ 0 ∷ 0 ∷ 0 ∷ 0 ∷ 0 ∷ 0 ∷ 127 ∷ 3 ∷ 0 ∷ 80 ∷ 76 ∷ 65 ∷ 73 ∷ 78 ∷ []) ≡ Some (record { why = why.Mechanism; place = 12 })
unfolding cut part_len frame_why greeting_fault item properties_within
other_mechanism = refl

metadata : fault Any Whole (255 ∷ 0 ∷ 0 ∷ 0 ∷ 0 ∷ 0 ∷ 0 ∷ 0 ∷ 0 ∷ 127 ∷ 3 ∷ 0 ∷ 78 ∷ 85 ∷ 76 ∷ 76 ∷ 0 ∷ 0 ∷ 0 ∷ 0 ∷ 0 ∷ 0 ∷ 0 ∷ 0 ∷ 0 ∷ 0 ∷ 0 ∷ 0 ∷ 0 ∷ 0 ∷ 0 ∷ 0 ∷ 0 ∷ 0 ∷ 0 ∷ 0 ∷ 0 ∷ 0 ∷ 0 ∷ 0 ∷ 0 ∷ 0 ∷ 0 ∷ 0 ∷ 0 ∷ 0 ∷ 0 ∷ 0 ∷ 0 ∷ 0 ∷ 0 ∷ 0 ∷ 0 ∷ 0 ∷ 0 ∷ 0 ∷ 0 ∷ 0 ∷ 0 ∷ 0 ∷ 0 ∷ 0 ∷ 0 ∷ 0 ∷ 4 ∷ 7 ∷ 5 ∷ 82 ∷ 69 ∷ 65 ∷ 68 ∷ 89 ∷ 5 ∷ []) ≡ Some (record { why = why.Metadata; place = 64 })
unfolding cut part_len frame_why greeting_fault item properties_within
metadata = refl

peer_error : fault Any Whole (255 ∷ 0 ∷ 0 ∷ 0 ∷ 0 ∷ 0 ∷ 0 ∷ 0 ∷ 0 ∷ 127 ∷ 3 ∷ 0 ∷ 78 ∷ 85 ∷ 76 ∷ 76 ∷ 0 ∷ 0 ∷ 0 ∷ 0 ∷ 0 ∷ 0 ∷ 0 ∷ 0 ∷ 0 ∷ 0 ∷ 0 ∷ 0 ∷ 0 ∷ 0 ∷ 0 ∷ 0 ∷ 0 ∷ 0 ∷ 0 ∷ 0 ∷ 0 ∷ 0 ∷ 0 ∷ 0 ∷ 0 ∷ 0 ∷ 0 ∷ 0 ∷ 0 ∷ 0 ∷ 0 ∷ 0 ∷ 0 ∷ 0 ∷ 0 ∷ 0 ∷ 0 ∷ 0 ∷ 0 ∷ 0 ∷ 0 ∷ 0 ∷ 0 ∷ 0 ∷ 0 ∷ 0 ∷ 0 ∷ 0 ∷ 4 ∷ 8 ∷ 5 ∷ 69 ∷ 82 ∷ 82 ∷ 79 ∷ 82 ∷ 1 ∷ 97 ∷ []) ≡ Some (record { why = why.PeerError; place = 64 })
unfolding cut part_len frame_why greeting_fault item properties_within
peer_error = refl

order : fault Any Whole (255 ∷ 0 ∷ 0 ∷ 0 ∷ 0 ∷ 0 ∷ 0 ∷ 0 ∷ 0 ∷ 127 ∷ 3 ∷ 0 ∷ 78 ∷ 85 ∷ 76 ∷ 76 ∷ 0 ∷ 0 ∷ 0 ∷ 0 ∷ 0 ∷ 0 ∷ 0 ∷ 0 ∷ 0 ∷ 0 ∷ 0 ∷ 0 ∷ 0 ∷ 0 ∷ 0 ∷ 0 ∷ 0 ∷ 0 ∷ 0 ∷ 0 ∷ 0 ∷ 0 ∷ 0 ∷ 0 ∷ 0 ∷ 0 ∷ 0 ∷ 0 ∷ 0 ∷ 0 ∷ 0 ∷ 0 ∷ 0 ∷ 0 ∷ 0 ∷ 0 ∷ 0 ∷ 0 ∷ 0 ∷ 0 ∷ 0 ∷ 0 ∷ 0 ∷ 0 ∷ 0 ∷ 0 ∷ 0 ∷ 0 ∷ 0 ∷ []) ≡ Some (record { why = why.Order; place = 64 })
unfolding cut part_len frame_why greeting_fault item properties_within
order = refl

command_name : fault Any Traffic (4 ∷ 1 ∷ 0 ∷ []) ≡ Some (record { why = why.CommandName; place = 0 })
unfolding cut part_len frame_why greeting_fault item properties_within
command_name = refl

command_between : items Any Traffic (1 ∷ 1 ∷ 97 ∷ 4 ∷ 2 ∷ 1 ∷ 65 ∷ 0 ∷ 1 ∷ 98 ∷ []) ≡ record { start = 3; end = 7; what = Command 2 (65 ∷ []) (1 ∷ 65 ∷ []) } ∷ record { start = 0; end = 10; what = Message ((97 ∷ []) ∷ (98 ∷ []) ∷ []) } ∷ []
unfolding cut part_len frame_why greeting_fault item properties_within
command_between = refl
