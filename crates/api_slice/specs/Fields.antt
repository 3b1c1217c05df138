-- What contracts see of a slice.
use Rattle.std.specs.Prelude.{ℕ, List, Option}
use Rattle.api_slice.specs.declared.types.CounterSet.{CounterSet}
use Rattle.api_slice.specs.declared.types.Device.{Device}
use Rattle.api_slice.specs.declared.types.Pool.{Pool}
use Rattle.api_slice.specs.declared.types.SliceNodes.{SliceNodes}

pub record SliceFields : Type 0 where
  pub name : List ℕ
  pub version : Option ℕ
  pub driver : List ℕ
  pub pool : Pool
  pub nodes : SliceNodes
  pub counters : List CounterSet
  pub devices : List Device
