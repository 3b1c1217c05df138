-- What a request asks for, by its method and what its path names.
use Rattle.std.specs.Prelude.{ℕ, List, Option, Some, None, Result, Ok, Err, codes, if◌then◌else◌}
use Rattle.std.specs.Str.{bytes_eq}
use Rattle.api_routes.specs.declared.asked.Route.{Route}
use Rattle.api_routes.specs.declared.asked.Route.TheVariants as route
use Rattle.api_routes.specs.declared.asked.Asked.{Asked}
use Rattle.api_routes.specs.declared.asked.Asked.TheVariants.{List as Listing, Create, Read, Update, Delete, Adopt, Schedule, Release, History}
use Rattle.api_routes.specs.declared.kind.Kind.TheVariants.{ResourceClaim}
use Rattle.api_routes.specs.declared.unserved.Unserved.{Unserved}
use Rattle.api_routes.specs.declared.unserved.Unserved.TheVariants.{NotFound, MethodNotAllowed}
use Rattle.api_routes.specs.Paths.{path_part, route_of}

-- the method is this one
abbrev pub on : List ℕ → List ℕ → Asked → Result Asked Unserved → Result Asked Unserved
on method word asked other = if bytes_eq method word then Ok asked else other

abbrev pub by_method : List ℕ → Route → Result Asked Unserved
by_method m (route.Objects kind namespace) =
    on m (codes "GET") (Listing kind namespace) (on m (codes "POST") (Create kind namespace) (Err MethodNotAllowed))
by_method m (route.Object kind key) =
    on m (codes "GET") (Read kind key) (on m (codes "PUT") (Update kind key) (on m (codes "DELETE") (Delete kind key) (Err MethodNotAllowed)))
by_method m (route.Status claim) =
    on m (codes "GET") (Read ResourceClaim claim) (on m (codes "PUT") (Adopt claim) (Err MethodNotAllowed))
by_method m (route.Schedule pod) = on m (codes "POST") (Schedule pod) (Err MethodNotAllowed)
by_method m (route.Release pod) = on m (codes "POST") (Release pod) (Err MethodNotAllowed)
by_method m route.History = on m (codes "GET") History (Err MethodNotAllowed)

abbrev pub by_route : List ℕ → Option Route → Result Asked Unserved
by_route m None = Err NotFound
by_route m (Some r) = by_method m r

-- what a request of this method and target asks for: an unknown path is not found, whatever the method
unfoldable pub asked_of : List ℕ → List ℕ → Result Asked Unserved
asked_of method target = by_route method (route_of (path_part target))
