-- The plain JSON object of a request, as an agent may write it.
use Rattle.std.specs.Prelude.{ℕ, List, [], ◌∷◌, decimal, codes}
use Rattle.std.specs.Fmt.{signed_decimal}
use Rattle.json.specs.Json.{Json, number, string, array, object, Items, no_items, item, Members, no_members, member}
use Rattle.json.specs.Tree.{json_tokens}
use Rattle.json.specs.Print.{print}
use Rattle.json_dialect.specs.Prelude.{Point, Request}
use Rattle.line_protocol.specs.declared.asking.Request.TheVariants.{Bid, Withdraw, Own, Quote, Cash, Quit}

-- the arrays of points, each its units and its price
abbrev pub point_items : List Point → Items
point_items [] = no_items
point_items (point ∷ points) = item (array (item (number (signed_decimal point.units)) (item (number (decimal point.price)) no_items))) (point_items points)

-- a member `do`, and others
abbrev pub asking : List ℕ → Members → Json
asking word members = object (member (codes "do") (string word) members)

-- a member `auction`, and others
abbrev pub about_good : ℕ → Members → Members
about_good good members = member (codes "auction") (number (decimal good)) members

abbrev pub object_of : Request → Json
object_of (Bid good points) = asking (codes "bid") (about_good good (member (codes "points") (array (point_items points)) no_members))
object_of (Withdraw good) = asking (codes "withdraw") (about_good good no_members)
object_of (Own good) = asking (codes "own") (about_good good no_members)
object_of (Quote good) = asking (codes "quote") (about_good good no_members)
object_of Cash = asking (codes "cash") no_members
object_of Quit = asking (codes "quit") no_members

-- the text of the object, without spaces
abbrev pub object_text : Request → List ℕ
object_text request = print (json_tokens (object_of request))
