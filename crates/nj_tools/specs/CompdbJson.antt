-- A compilation database by the grammar of JSON.
use Rattle.std.specs.Prelude.{◌≡◌, ℕ, Bool, Some, None, List, [], ◌∷◌, map, codes}
use Rattle.json.specs.Json.{Json, string, array, object, Items, no_items, item, no_members, member, document}
use Rattle.nj_scope.specs.ReadingList.{ReadStatement}
use Rattle.nj_tools.specs.Compdb.{Compilation, listed_edges, compilation_of, unheld_edge, compdb_text}

-- the object of an edge: exactly the keys below, in this order
abbrev pub object_of : (directory : List ℕ) → Compilation → Json
object_of directory c =
    object (member (codes "directory") (string directory)
    (member (codes "command") (string c.command)
    (member (codes "file") (string c.file)
    (member (codes "output") (string c.output) no_members))))

-- an object for each compilation
abbrev pub objects_of : (directory : List ℕ) → List Compilation → Items
objects_of directory [] = no_items
objects_of directory (c ∷ others) = item (object_of directory c) (objects_of directory others)

-- Where JSON can contain the strings of all listed edges, the output reads as one array: the objects of the listed
-- edges, in their order.
abbrev pub CompdbIsJson : Type 0
CompdbIsJson =
    (entries : List ReadStatement) (directory : List ℕ) (rules : List (List ℕ)) (expand : Bool) → unheld_edge entries rules expand ≡ None
    → document (compdb_text entries directory rules expand)
    ≡ Some (array (objects_of directory (map (compilation_of entries expand) (listed_edges entries rules))))
