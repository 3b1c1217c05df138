-- Changes of a disk that are made one after another, passed on.
pub use Rattle.stable_writes.specs.Steps.{Step, Cut, Put, IsExact, Safe, StepFailed, StoppedIn, all_bytes, all_done, begun, done, step_bytes, step_sure}
